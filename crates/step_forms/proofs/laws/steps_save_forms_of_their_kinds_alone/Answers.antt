use Rattle.depot_model.specs.Commands.{step}
use Rattle.step_forms.proofs.Staying.{form_stays}
use Rattle.step_forms.proofs.Whole.{step_saves}
use Rattle.step_forms.proofs.laws.steps_save_forms_of_their_kinds_alone.Goals as goal
use Rattle.step_forms.specs.SavedForms.{saved_kinds}

pub returns-clause-deeds : goal.returns-clause-deeds
returns-clause-deeds c = λ d request command is. (step_saves d request command is).all

pub returns-clause-forms : goal.returns-clause-forms
returns-clause-forms c = λ d request command kind name is away.
    form_stays (saved_kinds command) kind away name d (step d request).deeds (step_saves d request command is).all
