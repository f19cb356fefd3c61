-- The step of a command is that of its first refusal, or else its own.
use Rattle.std.proofs.Common.{◌≡◌, ℕ, List, [], ◌∷◌, Option, Some, None, sym, ◌∙◌, subst}
use Rattle.std.specs.Prelude.{option_map}
use Rattle.depot_rows.specs.table_changes.Changed.{AllRows}
use Rattle.depot_rows.specs.depot_model.declared.refusal.Refusal.{Refusal}
use Rattle.depot_rows.specs.depot_model.declared.reply.Row.{Row}
use Rattle.depot_rows.specs.depot_model.Deeds.{Deed}
use Rattle.depot_rows.specs.depot_model.Refusals.{refusal_row}
use Rattle.depot_rows.specs.depot_model.Step.{Step as ModelStep, unless, refuses}
use Rattle.reply_rows.specs.declared.step.Step.{Step}
use Rattle.reply_rows.specs.Made.{told}
use Rattle.step_stores.specs.Stored.{IsStoring}
use Rattle.reply_rows.specs.Refusing.{first_of}
use Rattle.command_core.proofs.Storing.{refuses_storing}

-- the step of the first refusal, where there is one
pub refusing : (all : AllRows) (from : ℕ) (d : List Deed) (tests : List (Option Refusal)) (own : ModelStep) (row : Row) (step : Step)
    → Some row ≡ option_map refusal_row (first_of tests) → step ≡ told (row ∷ []) → IsStoring all from d (unless tests own) step
refusing all from d [] own row step holds is = absurd cc
refusing all from d (None ∷ tests) own row step holds is = refusing all from d tests own row step holds is
refusing all from d (Some why ∷ tests) own row step holds is =
    let same : row ≡ refusal_row why = cc in
    subst (λ (s : Step). IsStoring all from d (refuses why) s) (sym (is ∙ (λ i. told (same i ∷ [])))) (refuses_storing all from d why)

-- its own, where there is none
pub granting : (all : AllRows) (from : ℕ) (d : List Deed) (tests : List (Option Refusal)) (own : ModelStep) (step : Step)
    → None ≡ option_map refusal_row (first_of tests) → IsStoring all from d own step → IsStoring all from d (unless tests own) step
granting all from d [] own step none is = is
granting all from d (None ∷ tests) own step none is = granting all from d tests own step none is
granting all from d (Some why ∷ tests) own step none is = absurd cc
