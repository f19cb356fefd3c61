-- What holds of steps that refuse, of no step, and of two together, holds of a step over files.
use Rattle.std.proofs.Common.{ℕ, Bool, true, false, List, [], ◌∷◌, ◌++◌, length, Option, Some, None}
use Rattle.std.specs.Prelude.{nat_lt, if◌then◌else◌}
use Rattle.depot_model.specs.Arguments.{over, over_all, each_or, not_in, everything, within_files, paths_of, changed_paths}
use Rattle.depot_model.specs.Step.{Step, nothing, both, all_of, unless, refuses}
use Rattle.depot_model.specs.declared.command.FileArgument.{FileArgument}
use Rattle.depot_model.specs.declared.refusal.Limit.TheVariants.{Files}
use Rattle.depot_model.specs.declared.refusal.Refusal.{Refusal}
use Rattle.depot_model.specs.declared.refusal.Refusal.TheVariants.{OverLimit}

module _ (Good : Step → Type 0) (refused : (why : Refusal) → Good (refuses why)) where
  pub good_unless : (tests : List (Option Refusal)) (step : Step) → Good step → Good (unless tests step)
  good_unless [] step h = h
  good_unless (None ∷ tests) step h = good_unless tests step h
  good_unless (Some why ∷ tests) step h = refused why

  pub good_within : (step : Step) → Good step → Good (within_files step)
  good_within step h = go (nat_lt 10000 (length (paths_of changed_paths step.deeds)))
    where
      go : (b : Bool) → Good (if b then refuses (OverLimit Files) else step)
      go true = refused (OverLimit Files)
      go false = h

module _ (Good : Step → Type 0) (none : Good nothing) (joined : (first next : Step) → Good first → Good next → Good (both first next)) where
  pub good_all : {A : Type 0} (act : A → Step) → ((x : A) → Good (act x)) → (xs : List A) → Good (all_of act xs)
  good_all act h [] = none
  good_all act h (x ∷ xs) = joined (act x) (all_of act xs) (h x) (good_all act h xs)

  module _ (files : FileArgument → List (List ℕ)) (act : FileArgument → List ℕ → Step) (acts : (a : FileArgument) (path : List ℕ) → Good (act a path)) where
    module _ (missing : FileArgument → Step) (misses : (a : FileArgument) → Good (missing a)) where
      one_or : (a : FileArgument) (named left : List (List ℕ)) → Good (each_or (missing a) (act a) named left)
      one_or a [] left = misses a
      one_or a (path ∷ paths) left = good_all (act a) (acts a) left

      pub good_over : (taken : List (List ℕ)) (arguments : List FileArgument) → Good (over files missing act taken arguments)
      good_over taken [] = none
      good_over taken (a ∷ arguments) =
          joined (each_or (missing a) (act a) (files a) (not_in taken (files a))) (over files missing act (taken ++ files a) arguments)
          (one_or a (files a) (not_in taken (files a))) (good_over (taken ++ files a) arguments)

    pub good_over_all : (missing : FileArgument → Step) → ((a : FileArgument) → Good (missing a)) → (arguments : List FileArgument)
        → Good (over_all files missing act arguments)
    good_over_all missing misses [] = good_over (λ a. nothing) (λ a. none) [] (everything ∷ [])
    good_over_all missing misses (a ∷ arguments) = good_over missing misses [] (a ∷ arguments)
