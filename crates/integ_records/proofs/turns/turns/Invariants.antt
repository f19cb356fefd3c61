use Rattle.std.proofs.Common.{◌≡◌, List, length}
use Rattle.std.specs.Prelude.{Some, map}
use Rattle.depot_rows.specs.db_records.declared.table.TableId.TheVariants as table_ids
use Rattle.depot_rows.specs.table_changes.Changed.{rows_of}
use Rattle.depot_rows.specs.depot_model.Deeds.{Deed}
use Rattle.depot_rows.specs.depot_model.Step.{Step as ModelStep, both}
use Rattle.depot_rows.specs.Deed.{opening_of, owing_of}
use Rattle.depot_rows.specs.Standing.{HasRows}
use Rattle.reply_rows.specs.Made.{IsMade}
use Rattle.integ_records.specs.Turns.{turns}
use Rattle.integ_records.proofs.turns.turns.Given as goal

abbrev pub invariant-loop-rest : goal.invariant-loop-rest
invariant-loop-rest l = (d e : List Deed) → HasRows (rows_of l.tables) d table_ids.Rev
    → (m : ModelStep) × IsMade (rows_of l.tables) d e m l.step
    × (both m (turns d l.taking (Some (opening_of l.opening)) (map owing_of l.rest)) ≡ turns d l.taking (Some (opening_of l.fn.opening)) (map owing_of l.owings))

abbrev pub decreases-loop-rest : goal.decreases-loop-rest
decreases-loop-rest l = length l.rest
