-- Which opened files an argument names.
use Rattle.std.proofs.Common.{◌≡◌, ℕ, Bool, true, false, List, [], ◌∷◌, Option, Some, None, refl}
use Rattle.std.specs.Prelude.{◌&&◌, filter, if◌then◌else◌, option_map}
use Rattle.depot_rows.specs.depot_model.declared.command.FileArgument.{FileArgument}
use Rattle.depot_rows.specs.depot_model.declared.refusal.Refusal.TheVariants.{NotOpen}
use Rattle.depot_rows.specs.depot_model.declared.request.Caller.{Caller}
use Rattle.depot_rows.specs.depot_model.Arguments.{names, opened_by, over}
use Rattle.depot_rows.specs.depot_model.Deeds.{Deed, Opening}
use Rattle.depot_rows.specs.depot_model.Opened.{opened}
use Rattle.depot_rows.specs.depot_model.Records.{working_record}
use Rattle.depot_rows.specs.depot_model.Refusals.{refusal_row}
use Rattle.depot_rows.specs.depot_model.Step.{Step as ModelStep, tells}
use Rattle.depot_rows.specs.depot_model.Steps.Reverting.{is_selected, not_open, selected}
use Rattle.named_files.specs.Sets.{is_chosen, selected_in}

pub row_selected : (d : List Deed) (change : Option ℕ) (o : Option Opening) → selected_in change (option_map (working_record d) o) ≡ is_selected change o
row_selected d None None = refl
row_selected d (Some n) None = refl
row_selected d None (Some o) = refl
row_selected d (Some n) (Some o) = refl

pub both_tests : (f g : List ℕ → Bool) (xs : List (List ℕ)) → filter (λ x. g x && f x) xs ≡ filter f (filter g xs)
both_tests f g [] = refl
both_tests f g (x ∷ xs) = go (g x) (both_tests f g xs)
  where
    go : (b : Bool) → filter (λ y. g y && f y) xs ≡ filter f (filter g xs)
        → (if b && f x then x ∷ filter (λ y. g y && f y) xs else filter (λ y. g y && f y) xs) ≡ filter f (if b then x ∷ filter g xs else filter g xs)
    go true more = λ i. if f x then x ∷ more i else more i
    go false more = more

-- the loop over the files that arguments name is the model's
pub over_selected : (d : List Deed) (caller : Caller) (change : Option ℕ) (act : FileArgument → List ℕ → ModelStep) (arguments : List FileArgument)
    → over (λ a. filter (is_chosen caller change d a) (opened_by d caller.client)) (λ a. tells (refusal_row (NotOpen a.text) ∷ [])) act [] arguments
    ≡ over (selected d caller change) not_open act [] arguments
over_selected d caller change act arguments = λ i.
    over (λ a. both_tests (λ path. is_selected change (opened d caller.client path)) (names true d caller a.spec) (opened_by d caller.client) i)
    not_open act [] arguments
