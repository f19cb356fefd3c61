use Rattle.std.proofs.Common.{◌≡◌, ℕ, true, List, [], ◌∷◌, sym, ap, ◌∙◌}
use Rattle.depot_rows.specs.depot_path.Path.{printed}
use Rattle.depot_rows.specs.table_changes.Changed.{AllRows}
use Rattle.depot_rows.specs.depot_model.declared.refusal.Refusal.TheVariants.{NotInView}
use Rattle.depot_rows.specs.depot_model.declared.command.FileArgument.{FileArgument}
use Rattle.depot_rows.specs.depot_model.Deeds.{Deed}
use Rattle.depot_rows.specs.depot_model.Refusals.{refusal_row}
use Rattle.depot_rows.specs.depot_model.Step.{tells}
use Rattle.depot_rows.specs.depot_model.Steps.Adding.{spelled}
use Rattle.depot_rows.specs.depot_model.WellFormed.{spells_path}
use Rattle.reply_rows.specs.Made.{IsMade}
use Rattle.reply_rows.specs.declared.step.Step.{Step}
use Rattle.reply_rows.proofs.Joined.{made_refusal}
use Rattle.named_files.proofs.Spelled.{found_is, is_found}
use Rattle.command_parts.proofs.Refused.{if_ok, none_found}
use Rattle.opened_files.proofs.adding.FilesToAddFileFinder.missing.Goals as goal

abbrev Done : FileArgument → Step → Type 0
Done argument step =
    (all : AllRows) (d e : List Deed) → spells_path argument ≡ true → IsMade all d e (tells (refusal_row (NotInView (printed (spelled argument))) ∷ [])) step

pub returns-in_default : goal.returns-in_default
returns-in_default c = if_ok {Q = Done c.args.argument.now} _ _ c.tells.ensures (λ step told all d e spells.
    let argument = c.args.argument.now in
    absurd (is_found (spells_path argument) (spelled argument) spells (sym (none_found _ c.in_default.not-Some) ∙ c.in_ok-path.ensures)))

pub returns : goal.returns
returns c = if_ok {Q = Done c.args.argument.now} _ _ c.tells-2.ensures (λ step told all d e spells.
    let argument = c.args.argument.now in
    made_refusal all d e (NotInView (printed (spelled argument))) c.in_ok-row-2.row step
    (c.in_ok-row-2.ensures
    ∙ ap (λ (p : List ℕ). refusal_row (NotInView (printed p))) (found_is (spells_path argument) c.in-Some.path (spelled argument) (sym c.in-Some.is ∙ c.in_ok-path.ensures)))
    told)
