use Rattle.std.proofs.Common.{◌≡◌, List, length}
use Rattle.std.specs.Prelude.{map}
use Rattle.depot_rows.specs.db_records.declared.table.TableId.TheVariants as table_ids
use Rattle.depot_rows.specs.table_changes.Changed.{rows_of}
use Rattle.depot_rows.specs.depot_model.declared.request.Caller.{Caller}
use Rattle.depot_rows.specs.depot_model.Deeds.{Deed}
use Rattle.depot_rows.specs.depot_model.Steps.Changing.{not_open}
use Rattle.depot_rows.specs.Standing.{HasRows}
use Rattle.reply_rows.specs.Refusing.{first_of}
use Rattle.change_lists.proofs.saving.first_not_open.Given as goal

abbrev pub invariant-loop-rest : goal.invariant-loop-rest
invariant-loop-rest l = (d : List Deed) (caller : Caller) → caller.client ≡ l.client → HasRows (rows_of l.tables) d table_ids.Working
    → first_of (map (not_open d caller) l.rest) ≡ first_of (map (not_open d caller) l.paths)

abbrev pub decreases-loop-rest : goal.decreases-loop-rest
decreases-loop-rest l = length l.rest
