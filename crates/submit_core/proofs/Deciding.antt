-- A submit is refused by its first refusal, or its change lands.
use Rattle.std.proofs.Common.{◌≡◌, ℕ, List, [], ◌∷◌, Option, Some, None, inl, inr, refl, sym, ap, subst, ◌∙◌}
use Rattle.std.specs.Prelude.{option_map}
use Rattle.depot_rows.specs.table_changes.Changed.{AllRows}
use Rattle.depot_rows.specs.depot_model.declared.reply.Row.{Row}
use Rattle.depot_rows.specs.depot_model.declared.request.Request.{Request}
use Rattle.depot_rows.specs.depot_model.declared.refusal.Refusal.{Refusal}
use Rattle.depot_rows.specs.depot_model.Deeds.{Deed, Opening}
use Rattle.depot_rows.specs.depot_model.Refusals.{refusal_row}
use Rattle.depot_rows.specs.depot_model.Step.{Step as ModelStep}
use Rattle.depot_rows.specs.depot_model.Steps.Submitting.{landed, landing_number, openings_of, submit}
use Rattle.reply_rows.specs.Made.{told}
use Rattle.reply_rows.specs.Refusing.{first_of}
use Rattle.reply_rows.specs.declared.step.Step.{Step}
use Rattle.depot_facts.specs.Submits.{IsAsked, MaySubmit}
use Rattle.depot_facts.proofs.Submitting.{Lands_or_not, submit_cases}
use Rattle.step_stores.specs.Stored.{IsStoring}
use Rattle.submit_core.specs.Submitting.{submit_refusals}
use Rattle.submit_core.proofs.Refusing.{first_refuses, none_refuses}
use Rattle.submit_core.proofs.Stepping.{refusal_stores}

module _ (d : List Deed) (request : Request) (n : ℕ) (text : List ℕ) where
  abbrev openings : List Opening
  openings = openings_of d request.caller n

  abbrev tests : List (Option Refusal)
  tests = submit_refusals d request n (landing_number d n) text openings

  pub decided_refused : (all : AllRows) (from : ℕ) (row : Row) (step : Step) → Some row ≡ option_map refusal_row (first_of tests) → step ≡ told (row ∷ [])
      → IsStoring all from d (submit d request n text) step
  decided_refused all from row step is made = go (first_of tests) refl is
    where
      go : (o : Option Refusal) → first_of tests ≡ o → Some row ≡ option_map refusal_row o → IsStoring all from d (submit d request n text) step
      go None f e = absurd cc
      go (Some why) f e =
          let one : row ≡ refusal_row why = cc in
          subst (λ (m : ModelStep). IsStoring all from d m step) (sym (first_refuses tests (landed d request n text openings) why f)) (refusal_stores all from d why row step one made)

  pub decided_landed : IsAsked d request n → None ≡ option_map refusal_row (first_of tests) → (submit d request n text ≡ landed d request n text openings) × MaySubmit d request n
  decided_landed asked is = (same_step, may (submit_cases d request n text asked))
    where
      none : first_of tests ≡ None
      none = go (first_of tests) is
        where
          go : (o : Option Refusal) → None ≡ option_map refusal_row o → o ≡ None
          go None e = refl
          go (Some why) e = absurd cc

      same_step : submit d request n text ≡ landed d request n text openings
      same_step = none_refuses tests (landed d request n text openings) none

      some_deed : (deed : Deed) (deeds : List Deed) → deed ∷ deeds ≡ [] → ⊥
      some_deed deed deeds e = absurd cc

      may : Lands_or_not d request n text (submit d request n text) → MaySubmit d request n
      may (inl nothing) = absurd (some_deed _ _ (sym (ap (λ (m : ModelStep). m.deeds) same_step) ∙ nothing))
      may (inr h) = h.1
