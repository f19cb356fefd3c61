use Rattle.std.proofs.Common.{ℕ, List}
use Rattle.depot_rows.specs.spec_form.declared.shape.Shape.TheVariants.{Client}
use Rattle.depot_rows.specs.table_changes.Changed.{AllRows}
use Rattle.depot_rows.specs.depot_model.Deeds.{Deed}
use Rattle.depot_rows.specs.depot_model.Steps.Clients.{client_save, saved}
use Rattle.reply_rows.specs.declared.step.Step.{Step}
use Rattle.reply_rows.specs.Made.{IsMade}
use Rattle.command_parts.proofs.Refused.{if_ok, read_made, unread_made}
use Rattle.spec_ops.proofs.Made.{if_both}
use Rattle.spec_ops.proofs.clients.client_save.Goals as goal

abbrev Saves : List ℕ → Step → Type 0
Saves input step = (all : AllRows) (d : List Deed) → IsMade all d d (client_save input) step

pub returns-in-Ok : goal.returns-in-Ok
returns-in-Ok c = if_ok {Q = Saves c.args.input.now} _ _ c.save.ensures (λ step made all d.
    read_made all d Client c.args.input.now (saved c.args.input.now) step c.in-Ok.form c.in-Ok.ensures.read (made all d))

pub returns-in-Err : goal.returns-in-Err
returns-in-Err c = if_both {Q = Saves c.args.input.now} _ _ _ c.unread.ensures.known c.unread.ensures.told (λ step known told all d.
    unread_made all d Client c.args.input.now (saved c.args.input.now) step c.in-Err.fault c.in-Err.ensures.read known told)
