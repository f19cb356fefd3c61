-- What `add` and `move` refuse of a new file, one after another, and the file that an argument spells.
use Rattle.std.proofs.Common.{◌≡◌, ℕ, Bool, true, false, List, [], ◌∷◌, Option, Some, None, refl, ◌∙◌, subst}
use Rattle.std.specs.Prelude.{if◌then◌else◌, option_map}
use Rattle.std.specs.Option.{option_to_list}
use Rattle.depot_rows.specs.table_changes.Changed.{AllRows}
use Rattle.depot_rows.specs.view_map.Mapping.{files_at}
use Rattle.depot_rows.specs.depot_model.declared.command.FileArgument.{FileArgument}
use Rattle.depot_rows.specs.depot_model.declared.refusal.Refusal.{Refusal}
use Rattle.depot_rows.specs.depot_model.declared.refusal.Refusal.TheVariants.{AlreadyOpen, Exists}
use Rattle.depot_rows.specs.depot_model.declared.reply.Row.{Row}
use Rattle.depot_rows.specs.depot_model.declared.request.Caller.{Caller}
use Rattle.depot_rows.specs.depot_model.Arguments.{in_client_syntax}
use Rattle.depot_rows.specs.depot_model.Deeds.{Deed}
use Rattle.depot_rows.specs.depot_model.Refusals.{refusal_row}
use Rattle.depot_rows.specs.depot_model.Step.{Step as ModelStep, refuse_if, unless}
use Rattle.depot_rows.specs.depot_model.Steps.Adding.{files_to_add, first_live, spelled}
use Rattle.reply_rows.specs.Made.{IsMade, told}
use Rattle.reply_rows.specs.declared.step.Step.{Step}
use Rattle.named_files.specs.Asked.{IsAsker}
use Rattle.named_files.specs.declared.asker.Asker.{Asker}
use Rattle.command_parts.proofs.Refused.{first_told, passed_first}
use Rattle.opened_files.specs.Adds.{new_refusal, spelled_file}

-- ---- tests one after another

new_tests : (path : List ℕ) (open_ there : Bool) (barred : Option Refusal) (step : ModelStep) → unless (new_refusal path open_ there barred ∷ []) step
    ≡ unless (refuse_if open_ (AlreadyOpen path) ∷ refuse_if there (Exists path) ∷ barred ∷ []) step
new_tests path true there barred step = refl
new_tests path false true barred step = refl
new_tests path false false barred step = refl

module _ (all : AllRows) (d e : List Deed) (path : List ℕ) (is_open there : Bool) (barred : Option Refusal) (model : ModelStep) (found : Option Row) (step : Step) where
  abbrev tests : List (Option Refusal)
  tests = refuse_if is_open (AlreadyOpen path) ∷ refuse_if there (Exists path) ∷ barred ∷ []

  pub new_told : (row : Row) → found ≡ Some row → found ≡ option_map refusal_row (new_refusal path is_open there barred) → step ≡ told (row ∷ [])
      → IsMade all d e (unless tests model) step
  new_told row is made tells =
      subst (λ (m : ModelStep). IsMade all d e m step) (new_tests path is_open there barred model)
      (first_told all d e (new_refusal path is_open there barred) [] model found row step is made tells)

  pub new_passed : ((row : Row) → found ≡ Some row → ⊥) → found ≡ option_map refusal_row (new_refusal path is_open there barred) → IsMade all d e model step
      → IsMade all d e (unless tests model) step
  new_passed none made is =
      subst (λ (m : ModelStep). IsMade all d e m step) (new_tests path is_open there barred model)
      (passed_first all d e (new_refusal path is_open there barred) [] model found step none made is)

-- ---- the file that an argument spells

listed : (file : Option (List ℕ)) → option_to_list file ≡ (elim file as (λ _. List (List ℕ)) [ None ↦ [] | Some x ↦ x ∷ [] ])
listed None = refl
listed (Some x) = refl

pub files_listed : (d : List Deed) (caller : Caller) (asker : Asker) (argument : FileArgument) (path : List ℕ) → IsAsker d caller asker → path ≡ spelled argument
    → option_to_list (spelled_file d asker argument path) ≡ files_to_add d caller argument
files_listed d caller asker argument path asked is =
    listed (spelled_file d asker argument path)
    ∙ (λ i. elim (if in_client_syntax (asked.client i) argument.spec.pattern then first_live d (files_at (asked.view i) (is i)) else Some (is i)) as (λ _. List (List ℕ)) [
      | None ↦ []
      | Some x ↦ x ∷ []
    ])
