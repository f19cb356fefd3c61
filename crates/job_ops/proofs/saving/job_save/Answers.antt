use Rattle.std.proofs.Common.{ℕ, List}
use Rattle.depot_rows.specs.db_records.declared.table.TableId.TheVariants as table_ids
use Rattle.depot_rows.specs.spec_form.declared.shape.Shape.TheVariants.{Job}
use Rattle.depot_rows.specs.table_changes.Changed.{AllRows, rows_of}
use Rattle.depot_rows.specs.depot_model.Deeds.{Deed}
use Rattle.depot_rows.specs.depot_model.Rules.{IsSound}
use Rattle.depot_rows.specs.depot_model.Steps.Jobs.{job_save, save_form}
use Rattle.depot_rows.specs.Standing.{HasRows}
use Rattle.reply_rows.specs.declared.step.Step.{Step}
use Rattle.reply_rows.specs.Made.{IsMade}
use Rattle.command_parts.proofs.Refused.{if_ok, read_made}
use Rattle.job_ops.proofs.saving.job_save.Goals as goal

abbrev Saves : AllRows → List ℕ → Step → Type 0
Saves rows input step = (d : List Deed) → IsSound d → HasRows rows d table_ids.Domain → IsMade rows d d (job_save d input) step

pub returns-in-Ok : goal.returns-in-Ok
returns-in-Ok c =
    let rows = rows_of c.args.tables.now in
    if_ok {Q = Saves rows c.args.input.now} _ _ c.save_form.ensures (λ step made d sound has.
    read_made rows d Job c.args.input.now (save_form d c.args.input.now) step c.in-Ok.form c.in-Ok.ensures.read (made d sound has))
