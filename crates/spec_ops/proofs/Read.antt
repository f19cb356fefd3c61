-- What is read.
use Rattle.std.proofs.Common.{◌≡◌, ◌⊎◌, inl, inr, List, Result, Ok, Err, refl, ◌∙◌, subst}
use Rattle.depot_rows.specs.depot_path.Answers.{Answers}
use Rattle.depot_rows.specs.table_changes.Changed.{AllRows}
use Rattle.depot_rows.specs.depot_model.declared.refusal.Refusal.{Refusal}
use Rattle.depot_rows.specs.depot_model.Deeds.{Deed}
use Rattle.depot_rows.specs.depot_model.Step.{Step as ModelStep, refuses}
use Rattle.reply_rows.specs.declared.step.Step.{Step}
use Rattle.reply_rows.specs.Made.{IsMade}

-- the step of what is read, and of what can't be
module _ {A E : Type 0} (all : AllRows) (d : List Deed) (memory : E) (why : E → Refusal) (own : ModelStep) (read : Result A E) (step : Step) where
  abbrev IsSo : Result A E → Type 0
  IsSo found = IsMade all d d (elim found as (λ _. ModelStep) [ Err fault ↦ refuses (why fault) | Ok x ↦ own ]) step

  pub by_read : (expected : Result A E) (x : A) → Answers memory (Ok x) read → read ≡ expected → IsMade all d d own step → IsSo expected
  by_read expected x h same made = go h.is
    where
      go : (Ok x ≡ Err memory) ⊎ (Ok x ≡ read) → IsSo expected
      go (inl e) = absurd cc
      go (inr e) = subst IsSo (e ∙ same) made

  pub unless_fault : (expected answer : Result A E) → ((fault : E) → answer ≡ Err fault → ⊥) → Answers memory answer read → read ≡ expected → IsMade all d d own step → IsSo expected
  unless_fault expected (Ok x) none h same made = by_read expected x h same made
  unless_fault expected (Err fault) none h same made = absurd (none fault refl)
