-- A step of which each deed passes a test, from its parts.
use Rattle.std.proofs.Common.{◌≡◌, ℕ, Bool, true, false, List, [], ◌∷◌, ◌++◌, Option, Some, None, Result, Ok, Err, refl, ◌∙◌}
use Rattle.std.specs.Prelude.{flat_map, if◌then◌else◌}
use Rattle.std.specs.List.{list_all}
use Rattle.std.specs.Cmp.Derive.{both_true}
use Rattle.std.proofs.lemmas.List.Folds.{list_all-append}
use Rattle.depot_model.specs.Arguments.{over, over_all, within_files}
use Rattle.depot_model.specs.Deeds.{Deed}
use Rattle.depot_model.specs.declared.command.FileArgument.{FileArgument}
use Rattle.depot_model.specs.declared.refusal.Refusal.{Refusal}
use Rattle.depot_model.specs.declared.reply.Row.{Row}
use Rattle.depot_model.specs.Step.{Step, tells, does, both, all_of, unless}
use Rattle.step_forms.proofs.Parts.{good_unless, good_within, good_all, good_over, good_over_all}

abbrev pub All : (Deed → Bool) → List Deed → Type 0
All test deeds = list_all test deeds ≡ true

-- the deeds of a step do
pub record Each (test : Deed → Bool) (step : Step) : Type 0 where
  pub all : All test step.deeds

pub joined : (test : Deed → Bool) (xs ys : List Deed) → All test xs → All test ys → All test (xs ++ ys)
joined test xs ys h k = list_all-append test xs ys ∙ both_true h k

-- the deeds that a list gives, each some or none
pub gathered : {A : Type 0} (test : Deed → Bool) (deeds : A → List Deed) → ((x : A) → All test (deeds x)) → (xs : List A) → All test (flat_map deeds xs)
gathered test deeds h [] = refl
gathered test deeds h (x ∷ xs) = joined test (deeds x) (flat_map deeds xs) (h x) (gathered test deeds h xs)

-- what holds of no deed holds after refusals
module _ (Holds : List Deed → Type 0) (nothing : Holds []) where
  pub unless_holds : (tests : List (Option Refusal)) (step : Step) → Holds step.deeds → Holds (unless tests step).deeds
  unless_holds = good_unless (λ (step : Step). Holds step.deeds) (λ why. nothing)

module _ {test : Deed → Bool} where
  -- a step that only tells, and one of some deeds
  pub only_tells : (rows : List Row) → Each test (tells rows)
  only_tells rows = record { all = refl }

  pub done : (deeds : List Deed) (row : Row) → All test deeds → Each test (does deeds row)
  done deeds row h = record { all = h }

  pub each_both : (first next : Step) → Each test first → Each test next → Each test (both first next)
  each_both first next h k = record { all = joined test first.deeds next.deeds h.all k.all }

  -- a step that refusals go before
  pub each_unless : (tests : List (Option Refusal)) (step : Step) → Each test step → Each test (unless tests step)
  each_unless = good_unless (Each test) (λ why. only_tells _)

  pub each_refused : (first : Option Refusal) (tests : List (Option Refusal)) (step : Step) → Each test step → Each test (unless (first ∷ tests) step)
  each_refused first tests step h = each_unless (first ∷ tests) step h

  pub each_within : (step : Step) → Each test step → Each test (within_files step)
  each_within = good_within (Each test) (λ why. only_tells _)

  -- one of two steps
  pub each_if : (b : Bool) (on off : Step) → Each test on → Each test off → Each test (if b then on else off)
  each_if true on off h k = h
  each_if false on off h k = k

  -- a step for what is there, and one for what reads
  pub each_where : {A : Type 0} (act : A → Step) → ((x : A) → Each test (act x)) → (none : Step) → Each test none → (o : Option A)
      → Each test (elim o as (λ _. Step) [ None ↦ none | Some x ↦ act x ])
  each_where act h none k None = k
  each_where act h none k (Some x) = h x

  pub each_read : {A E : Type 0} (act : A → Step) → ((x : A) → Each test (act x)) → (fails : E → Step) → ((e : E) → Each test (fails e)) → (r : Result A E)
      → Each test (elim r as (λ _. Step) [ Err e ↦ fails e | Ok x ↦ act x ])
  each_read act h fails k (Err e) = k e
  each_read act h fails k (Ok x) = h x

  pub each_all : {A : Type 0} (act : A → Step) → ((x : A) → Each test (act x)) → (xs : List A) → Each test (all_of act xs)
  each_all act h xs = good_all (Each test) (only_tells []) each_both act h xs

  -- the files of arguments
  module _ (files : FileArgument → List (List ℕ)) (act : FileArgument → List ℕ → Step) (acts : (a : FileArgument) (path : List ℕ) → Each test (act a path))
      (missing : FileArgument → Step) (none : (a : FileArgument) → Each test (missing a)) where
    pub each_over : (taken : List (List ℕ)) (arguments : List FileArgument) → Each test (over files missing act taken arguments)
    each_over = good_over (Each test) (only_tells []) each_both files act acts missing none

    pub each_over_all : (arguments : List FileArgument) → Each test (over_all files missing act arguments)
    each_over_all = good_over_all (Each test) (only_tells []) each_both files act acts missing none
