use Rattle.std.proofs.Common.{◌≡◌, List, drop}
use Rattle.std.specs.Prelude.{map, option_map}
use Rattle.depot_rows.specs.db_records.declared.table.TableId.TheVariants as table_ids
use Rattle.depot_rows.specs.table_changes.Changed.{rows_of}
use Rattle.depot_rows.specs.depot_model.Deeds.{Deed}
use Rattle.depot_rows.specs.depot_model.Refusals.{refusal_row}
use Rattle.depot_rows.specs.depot_model.Rules.{IsSound}
use Rattle.depot_rows.specs.depot_model.Steps.Jobs.{no_job}
use Rattle.depot_rows.specs.Standing.{HasRows}
use Rattle.reply_rows.specs.Refusing.{first_of}
use Rattle.job_ops.specs.Refusals.{named_refusals}
use Rattle.job_ops.proofs.refusals.named_refusal.Given as goal

abbrev pub invariant-loop-name : goal.invariant-loop-name
invariant-loop-name l =
    (d : List Deed) → IsSound d → HasRows (rows_of l.tables) d table_ids.Domain → HasRows (rows_of l.tables) d table_ids.Change
    → option_map refusal_row (first_of (map (no_job d) (drop l.name-index l.names))) ≡ option_map refusal_row (first_of (named_refusals d l.change l.names))
