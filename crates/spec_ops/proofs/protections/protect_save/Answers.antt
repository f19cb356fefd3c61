use Rattle.std.proofs.Common.{ℕ, List, subst}
use Rattle.std.specs.Prelude.{codes}
use Rattle.depot_rows.specs.spec_form.Form.{FormValue, lines_of}
use Rattle.depot_rows.specs.spec_form.declared.shape.Shape.TheVariants.{Protect}
use Rattle.depot_rows.specs.table_changes.Changed.{AllRows}
use Rattle.depot_rows.specs.depot_model.Deeds.{Deed}
use Rattle.depot_rows.specs.depot_model.Step.{Step as ModelStep}
use Rattle.depot_rows.specs.depot_model.Steps.Protections.{protect_save, saved}
use Rattle.reply_rows.specs.declared.step.Step.{Step}
use Rattle.reply_rows.specs.Made.{IsMade}
use Rattle.command_parts.proofs.Refused.{if_ok, read_made, unread_made}
use Rattle.spec_ops.proofs.Made.{if_both}
use Rattle.spec_ops.proofs.protections.protect_save.Goals as goal

abbrev Saves : List ℕ → Step → Type 0
Saves input step = (all : AllRows) (d : List Deed) → IsMade all d d (protect_save input) step

abbrev saved_lines : List ℕ → FormValue → ModelStep
saved_lines input form = saved input (lines_of form (codes "Protections"))

pub returns-in-Ok : goal.returns-in-Ok
returns-in-Ok c = if_ok {Q = Saves c.args.input.now} _ _ c.save.ensures (λ step made all d.
    read_made all d Protect c.args.input.now (saved_lines c.args.input.now) step c.in-Ok.form c.in-Ok.ensures.read
    (subst (λ (lines : List (List ℕ)). IsMade all d d (saved c.args.input.now lines) step) c.lines.ensures (made all d)))

pub returns-in-Err : goal.returns-in-Err
returns-in-Err c = if_both {Q = Saves c.args.input.now} _ _ _ c.unread.ensures.known c.unread.ensures.told (λ step known told all d.
    unread_made all d Protect c.args.input.now (saved_lines c.args.input.now) step c.in-Err.fault c.in-Err.ensures.read known told)
