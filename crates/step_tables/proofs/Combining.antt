-- A step whose deeds stay in some tables, from its parts.
use Rattle.std.proofs.Common.{◌≡◌, ℕ, Bool, true, false, List, [], ◌∷◌, ◌++◌, Option, Some, None, Result, Ok, Err, refl, ◌∙◌}
use Rattle.std.specs.Prelude.{length, nat_lt, if◌then◌else◌}
use Rattle.std.specs.List.{list_all}
use Rattle.std.specs.Cmp.Derive.{both_true}
use Rattle.std.proofs.lemmas.List.Folds.{list_all-append}
use Rattle.depot_model.specs.db_records.declared.table.TableId.{TableId}
use Rattle.depot_model.specs.Arguments.{over, over_all, each_or, not_in, everything, within_files, paths_of, changed_paths}
use Rattle.depot_model.specs.Deeds.{Deed}
use Rattle.depot_model.specs.declared.reply.Row.{Row}
use Rattle.depot_model.specs.Step.{Step, nothing, tells, does, after, both, all_of, unless, in_turn, refuses}
use Rattle.depot_model.specs.declared.command.FileArgument.{FileArgument}
use Rattle.depot_model.specs.declared.refusal.Refusal.{Refusal}
use Rattle.depot_model.specs.declared.refusal.Refusal.TheVariants.{OverLimit}
use Rattle.depot_model.specs.declared.refusal.Limit.TheVariants.{Files}
use Rattle.step_tables.specs.DeedTables.{stays_in}

abbrev pub StayIn : List TableId → List Deed → Type 0
StayIn tables deeds = list_all (stays_in tables) deeds ≡ true

-- the deeds of a step do
pub record Stays (tables : List TableId) (step : Step) : Type 0 where
  pub each : StayIn tables step.deeds

pub joined : (tables : List TableId) (xs ys : List Deed) → StayIn tables xs → StayIn tables ys → StayIn tables (xs ++ ys)
joined tables xs ys h k = list_all-append (stays_in tables) xs ys ∙ both_true h k

module _ {tables : List TableId} where
  -- a step that only tells, and one of some deeds
  pub only_tells : (rows : List Row) → Stays tables (tells rows)
  only_tells rows = record { each = refl }

  pub done : (deeds : List Deed) (row : Row) → StayIn tables deeds → Stays tables (does deeds row)
  done deeds row h = record { each = h }

  pub stays_both : (first next : Step) → Stays tables first → Stays tables next → Stays tables (both first next)
  stays_both first next h k = record { each = joined tables first.deeds next.deeds h.each k.each }

  -- a step that refusals go before
  pub stays_unless : (tests : List (Option Refusal)) (step : Step) → Stays tables step → Stays tables (unless tests step)
  stays_unless [] step h = h
  stays_unless (None ∷ tests) step h = stays_unless tests step h
  stays_unless (Some why ∷ tests) step h = only_tells _

  pub stays_refused : (test : Option Refusal) (tests : List (Option Refusal)) (step : Step) → Stays tables step → Stays tables (unless (test ∷ tests) step)
  stays_refused test tests step h = stays_unless (test ∷ tests) step h

  pub stays_within : (step : Step) → Stays tables step → Stays tables (within_files step)
  stays_within step h = go (nat_lt 10000 (length (paths_of changed_paths step.deeds)))
    where
      go : (b : Bool) → Stays tables (if b then refuses (OverLimit Files) else step)
      go true = only_tells _
      go false = h

  -- one of two steps
  pub stays_if : (b : Bool) (on off : Step) → Stays tables on → Stays tables off → Stays tables (if b then on else off)
  stays_if b on off h k = go b
    where
      go : (c : Bool) → Stays tables (if c then on else off)
      go true = h
      go false = k

  -- a step for what is there, and one for what reads
  pub stays_where : {A : Type 0} (act : A → Step) → ((x : A) → Stays tables (act x)) → (none : Step) → Stays tables none → (o : Option A)
      → Stays tables (elim o as (λ _. Step) [ None ↦ none | Some x ↦ act x ])
  stays_where act h none k None = k
  stays_where act h none k (Some x) = h x

  pub stays_read : {A E : Type 0} (act : A → Step) → ((x : A) → Stays tables (act x)) → (fails : E → Step) → ((e : E) → Stays tables (fails e)) → (r : Result A E)
      → Stays tables (elim r as (λ _. Step) [ Err e ↦ fails e | Ok x ↦ act x ])
  stays_read act h fails k (Err e) = k e
  stays_read act h fails k (Ok x) = h x

  pub stays_all : {A : Type 0} (act : A → Step) → ((x : A) → Stays tables (act x)) → (xs : List A) → Stays tables (all_of act xs)
  stays_all act h [] = only_tells _
  stays_all act h (x ∷ xs) = stays_both (act x) (all_of act xs) (h x) (stays_all act h xs)

  pub stays_in_turn : (act : List Deed → List ℕ → Step) → ((d : List Deed) (path : List ℕ) → Stays tables (act d path)) → (d : List Deed)
      (paths : List (List ℕ)) → Stays tables (in_turn act d paths)
  stays_in_turn act h d [] = only_tells _
  stays_in_turn act h d (path ∷ paths) =
      stays_both (act d path) (in_turn act (after d (act d path).deeds) paths) (h d path) (stays_in_turn act h (after d (act d path).deeds) paths)

  -- the files of arguments
  module _ (files : FileArgument → List (List ℕ)) (act : FileArgument → List ℕ → Step) (acts : (a : FileArgument) (path : List ℕ) → Stays tables (act a path)) where
    module _ (missing : FileArgument → Step) (none : (a : FileArgument) → Stays tables (missing a)) where
      one_or : (a : FileArgument) (named left : List (List ℕ)) → Stays tables (each_or (missing a) (act a) named left)
      one_or a [] left = none a
      one_or a (path ∷ paths) left = stays_all (act a) (acts a) left

      pub stays_over : (taken : List (List ℕ)) (arguments : List FileArgument) → Stays tables (over files missing act taken arguments)
      stays_over taken [] = only_tells _
      stays_over taken (a ∷ arguments) =
          stays_both (each_or (missing a) (act a) (files a) (not_in taken (files a))) (over files missing act (taken ++ files a) arguments)
          (one_or a (files a) (not_in taken (files a))) (stays_over (taken ++ files a) arguments)

    pub stays_over_all : (missing : FileArgument → Step) → ((a : FileArgument) → Stays tables (missing a)) → (arguments : List FileArgument)
        → Stays tables (over_all files missing act arguments)
    stays_over_all missing none [] = stays_over (λ a. nothing) (λ a. only_tells _) [] (everything ∷ [])
    stays_over_all missing none (a ∷ arguments) = stays_over missing none [] (a ∷ arguments)
