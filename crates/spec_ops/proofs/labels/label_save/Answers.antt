use Rattle.std.proofs.Common.{ℕ, List}
use Rattle.depot_rows.specs.db_records.declared.table.TableId.TheVariants as table_ids
use Rattle.depot_rows.specs.spec_form.declared.shape.Shape.TheVariants.{Label}
use Rattle.depot_rows.specs.table_changes.Changed.{AllRows, rows_of}
use Rattle.depot_rows.specs.depot_model.Deeds.{Deed}
use Rattle.depot_rows.specs.depot_model.Rules.{IsSound}
use Rattle.depot_rows.specs.depot_model.Steps.Labels.{label_save, saved}
use Rattle.depot_rows.specs.Standing.{HasRows}
use Rattle.reply_rows.specs.declared.step.Step.{Step}
use Rattle.reply_rows.specs.Made.{IsMade}
use Rattle.command_parts.proofs.Refused.{if_ok, read_made, unread_made}
use Rattle.spec_ops.proofs.Made.{if_both}
use Rattle.spec_ops.proofs.labels.label_save.Goals as goal

abbrev Saves : AllRows → List ℕ → Step → Type 0
Saves rows input step = (d : List Deed) → IsSound d → HasRows rows d table_ids.Domain → IsMade rows d d (label_save d input) step

pub returns-in-Ok : goal.returns-in-Ok
returns-in-Ok c =
    let rows = rows_of c.args.tables.now in
    if_ok {Q = Saves rows c.args.input.now} _ _ c.save.ensures (λ step made d sound has.
    read_made rows d Label c.args.input.now (saved d) step c.in-Ok.form c.in-Ok.ensures.read (made d sound has))

pub returns-in-Err : goal.returns-in-Err
returns-in-Err c =
    let rows = rows_of c.args.tables.now in
    if_both {Q = Saves rows c.args.input.now} _ _ _ c.unread.ensures.known c.unread.ensures.told (λ step known told d sound has.
    unread_made rows d Label c.args.input.now (saved d) step c.in-Err.fault c.in-Err.ensures.read known told)
