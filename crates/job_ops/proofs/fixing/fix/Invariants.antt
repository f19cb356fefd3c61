use Rattle.std.proofs.Common.{◌≡◌, List, take}
use Rattle.std.specs.Prelude.{is_some}
use Rattle.depot_rows.specs.db_records.declared.table.TableId.TheVariants as table_ids
use Rattle.depot_rows.specs.table_changes.Changed.{rows_of}
use Rattle.depot_rows.specs.depot_model.Deeds.{Deed}
use Rattle.depot_rows.specs.depot_model.Numbers.{landing}
use Rattle.depot_rows.specs.depot_model.Rules.{IsSound}
use Rattle.depot_rows.specs.depot_model.Step.{all_of}
use Rattle.depot_rows.specs.depot_model.Steps.Jobs.{fix_job}
use Rattle.depot_rows.specs.Standing.{HasRows}
use Rattle.reply_rows.specs.Made.{IsMade}
use Rattle.job_ops.proofs.fixing.fix.Given as goal

abbrev pub invariant-loop-name : goal.invariant-loop-name
invariant-loop-name l =
    (d : List Deed) → IsSound d → HasRows (rows_of l.tables) d table_ids.Domain → l.landed ≡ is_some (landing d l.change)
    → IsMade (rows_of l.tables) d d (all_of (fix_job d l.caller l.change) (take l.name-index l.each)) l.step
