-- A `shelve` saves forms of shelved files alone.
use Rattle.std.proofs.Common.{◌≡◌, ℕ, Bool, true, List, Ok, refl}
use Rattle.std.specs.List.{list_all}
use Rattle.depot_model.specs.Asking.{to_open}
use Rattle.depot_model.specs.Commands.{step}
use Rattle.depot_model.specs.Deeds.{Deed}
use Rattle.depot_model.specs.Steps.Opening.{right_refusal}
use Rattle.depot_model.specs.declared.command.Command.TheVariants.{Shelve}
use Rattle.depot_model.specs.declared.command.FileArgument.{FileArgument}
use Rattle.depot_model.specs.declared.request.Request.{Request}
use Rattle.depot_runs.specs.Folds.{is_shelf}
use Rattle.step_forms.proofs.Combining.{done, each_refused}
use Rattle.step_forms.proofs.Saving.{each_shelved}
use Rattle.step_forms.proofs.Whole.{each_of}

pub shelves_alone : (d : List Deed) (request : Request) (n : ℕ) (replaces : Bool) (files : List FileArgument) → request.command ≡ Ok (Shelve n replaces files)
    → list_all is_shelf (step d request).deeds ≡ true
shelves_alone d request n replaces files is =
    (each_of d request is_shelf (Shelve n replaces files) is
    (each_shelved d request replaces n files (λ o. each_refused (right_refusal to_open d request.caller o.path) _ _ (done _ _ refl)))).all
