-- A fix after the places of an order.
use Rattle.std.proofs.Common.{◌≡◌, ℕ, List, [], ◌∷◌, Option, Some, None, Ok, refl, ap, ◌∙◌}
use Rattle.depot_model.specs.spec_form.Form.{FormValue}
use Rattle.depot_model.specs.Commands.{step}
use Rattle.depot_model.specs.Deeds.{Deed, FixForm}
use Rattle.depot_model.specs.Fixes.{fix_name}
use Rattle.depot_model.specs.Latest.{spec}
use Rattle.depot_model.specs.Places.{Placed, done_at, taken}
use Rattle.depot_model.specs.Step.{after}
use Rattle.depot_model.specs.declared.command.Command.{Command}
use Rattle.depot_model.specs.declared.command.Command.TheVariants.{Fix, FixDelete, SubmitChange, SubmitDefault}
use Rattle.depot_model.specs.declared.request.Request.{Request}
use Rattle.depot_runs.specs.Folds.{command_of, fix_next, fix_from, fix_state}
use Rattle.step_forms.proofs.Placing.{at_place}
use Rattle.step_forms.proofs.Staying.{form_stays, spec_after}
use Rattle.step_forms.proofs.Whole.{step_saves}
use Rattle.step_forms.specs.SavedForms.{saved_kinds}

module _ (name : List ℕ) (n : ℕ) where
  abbrev fixed : List Deed → Option FormValue
  fixed d = spec d FixForm (fix_name name n)

  module _ (d : List Deed) where
    abbrev Next : Option Command → List Deed → Type 0
    Next command deeds = fixed (after d deeds) ≡ fix_next command name n deeds (fixed d)

    nothing_done : (command : Option Command) → Next command []
    nothing_done None = refl
    nothing_done (Some (Fix m names)) = refl
    nothing_done (Some (FixDelete m names)) = refl
    nothing_done (Some (SubmitChange m)) = refl
    nothing_done (Some (SubmitDefault text)) = refl
    nothing_done (Some command) = refl

    step_done : (request : Request) (command : Command) → request.command ≡ Ok command → Next (Some command) (step d request).deeds
    step_done request (Fix m names) is = spec_after FixForm (fix_name name n) d (step d request).deeds
    step_done request (FixDelete m names) is = spec_after FixForm (fix_name name n) d (step d request).deeds
    step_done request (SubmitChange m) is = spec_after FixForm (fix_name name n) d (step d request).deeds
    step_done request (SubmitDefault text) is = spec_after FixForm (fix_name name n) d (step d request).deeds
    step_done request command is =
        form_stays (saved_kinds command) FixForm refl (fix_name name n) d (step d request).deeds (step_saves d request command is).all

  all_places : (places : List Placed) (d : List Deed) (before : Option FormValue) → fixed d ≡ before → fixed (taken step d places) ≡ fix_from step d places name n before
  all_places [] d before e = e
  all_places (p ∷ places) d before e =
      all_places places (after d (done_at step d p)) (fix_next (command_of p) name n (done_at step d p) before)
      (at_place d (Next d) (nothing_done d) (step_done d) p ∙ ap (fix_next (command_of p) name n (done_at step d p)) e)

pub folded_fixes : (d : List Deed) (places : List Placed) (name : List ℕ) (n : ℕ) → spec (taken step d places) FixForm (fix_name name n) ≡ fix_state step d places name n
folded_fixes d places name n = all_places name n places d (spec d FixForm (fix_name name n)) refl
