use Rattle.std.proofs.Common.{◌≡◌, List, length}
use Rattle.std.specs.Prelude.{flat_map}
use Rattle.depot_rows.specs.db_records.declared.table.TableId.TheVariants as table_ids
use Rattle.depot_rows.specs.table_changes.Changed.{rows_of}
use Rattle.depot_rows.specs.Standing.{HasRows}
use Rattle.depot_rows.specs.depot_model.declared.command.FileArgument.{FileArgument}
use Rattle.depot_rows.specs.depot_model.Common.{unknown_name}
use Rattle.depot_rows.specs.depot_model.Deeds.{Deed}
use Rattle.command_core.proofs.refusing.first_unknown.Given as goal

abbrev pub invariant-loop-rest : goal.invariant-loop-rest
invariant-loop-rest l = (d : List Deed) → HasRows (rows_of l.tables) d table_ids.Domain
    → flat_map (λ (a : FileArgument). unknown_name d a.spec.wanted) l.rest ≡ flat_map (λ (a : FileArgument). unknown_name d a.spec.wanted) l.fn.files

abbrev pub decreases-loop-rest : goal.decreases-loop-rest
decreases-loop-rest l = length l.rest
