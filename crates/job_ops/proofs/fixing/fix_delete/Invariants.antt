use Rattle.std.proofs.Common.{List, take}
use Rattle.depot_rows.specs.db_records.declared.table.TableId.TheVariants as table_ids
use Rattle.depot_rows.specs.table_changes.Changed.{rows_of}
use Rattle.depot_rows.specs.depot_model.Deeds.{Deed}
use Rattle.depot_rows.specs.depot_model.Rules.{IsSound}
use Rattle.depot_rows.specs.depot_model.Step.{all_of}
use Rattle.depot_rows.specs.depot_model.Steps.Jobs.{unfix_job}
use Rattle.depot_rows.specs.Standing.{HasRows}
use Rattle.reply_rows.specs.Made.{IsMade}
use Rattle.job_ops.proofs.fixing.fix_delete.Given as goal

abbrev pub invariant-loop-name : goal.invariant-loop-name
invariant-loop-name l =
    (d : List Deed) → IsSound d → HasRows (rows_of l.tables) d table_ids.Domain
    → IsMade (rows_of l.tables) d d (all_of (unfix_job d l.change) (take l.name-index l.each)) l.step
