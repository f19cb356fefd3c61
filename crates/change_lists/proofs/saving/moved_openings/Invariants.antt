use Rattle.std.proofs.Common.{◌≡◌, ◌++◌, List, length}
use Rattle.std.specs.Prelude.{flat_map, map}
use Rattle.depot_rows.specs.db_records.declared.table.TableId.TheVariants as table_ids
use Rattle.depot_rows.specs.table_changes.Changed.{rows_of}
use Rattle.depot_rows.specs.depot_model.Deeds.{Deed}
use Rattle.depot_rows.specs.depot_model.Rules.{IsSound}
use Rattle.depot_rows.specs.Deed.{opening_of}
use Rattle.depot_rows.specs.Standing.{HasRows}
use Rattle.change_lists.specs.Saving.{moved_in}
use Rattle.change_lists.proofs.saving.moved_openings.Given as goal

abbrev pub invariant-loop-rest : goal.invariant-loop-rest
invariant-loop-rest l = (d : List Deed) → IsSound d → HasRows (rows_of l.tables) d table_ids.Working
    → map opening_of l.openings ++ flat_map (moved_in d l.client l.change) l.rest ≡ flat_map (moved_in d l.client l.change) l.paths

abbrev pub decreases-loop-rest : goal.decreases-loop-rest
decreases-loop-rest l = length l.rest
