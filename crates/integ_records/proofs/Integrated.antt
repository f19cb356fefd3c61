-- Some files are integrated in turn, and the deeds are on the files of the caller's client.
use Rattle.std.proofs.Common.{◌≡◌, ℕ, Bool, true, false, List, [], ◌∷◌, Option, Some, None, refl}
use Rattle.std.specs.Prelude.{◌&&◌, if◌then◌else◌, is_some, not, unwrap_or}
use Rattle.std.specs.List.{last_or, list_all}
use Rattle.depot_rows.specs.depot_path.Bytes.{same}
use Rattle.depot_rows.specs.depot_path.Path.{printed}
use Rattle.depot_rows.specs.depot_path.declared.revision.Wanted.{Wanted}
use Rattle.depot_rows.specs.depot_path.declared.revision.Wanted.TheVariants.{Head}
use Rattle.depot_rows.specs.depot_model.declared.command.FileArgument.{FileArgument}
use Rattle.depot_rows.specs.depot_model.declared.command.PatternArgument.{PatternArgument}
use Rattle.depot_rows.specs.depot_model.declared.refusal.Refusal.{Refusal}
use Rattle.depot_rows.specs.depot_model.declared.refusal.Refusal.TheVariants.{AllIntegrated, AlreadyOpen, NotInView}
use Rattle.depot_rows.specs.depot_model.declared.request.Caller.{Caller}
use Rattle.depot_rows.specs.depot_model.Asking.{to_open, to_read}
use Rattle.depot_rows.specs.depot_model.Choice.{At, Choice, PassedOver, chosen, shown}
use Rattle.depot_rows.specs.depot_model.Deeds as model
use Rattle.depot_rows.specs.depot_model.Deeds.{Deed, Got, Open, Owe, Paid}
use Rattle.depot_rows.specs.depot_model.Opened.{opened}
use Rattle.depot_rows.specs.depot_model.Revisions.{head, is_live_at, is_live_head}
use Rattle.depot_rows.specs.depot_model.Step.{Step as ModelStep, does, in_turn, nothing, refuse_if, refuses, unless}
use Rattle.depot_rows.specs.depot_model.Steps.Integrating.{integrate_all, integrate_chosen, integrate_deleted, integrate_file, integrate_live, integrate_revs, integrate_row, integrate_to, new_type, opening, owing, type_at, uncredited}
use Rattle.depot_rows.specs.depot_model.Steps.Opening.{exclusive_refusal, held, right_refusal}
use Rattle.depot_rows.specs.depot_model.Steps.Targets.{target_at, target_text}
use Rattle.depot_rows.proofs.Keys.{same-self}
use Rattle.opening_reads.specs.OwnOpenings.{is_of}

pub some_integrated : (d : List Deed) (caller : Caller) (change : Option ℕ) (from : FileArgument) (to : PatternArgument) (paths : List (List ℕ)) → (paths ≡ [] → ⊥)
    → in_turn (integrate_file d caller change from to) d paths ≡ integrate_all d caller change from to paths
some_integrated d caller change from to [] some = absurd (some refl)
some_integrated d caller change from to (path ∷ paths) some = refl

-- by the choice of a revision; a file passed over gives no row
abbrev pub integrates_at : List Deed → List Deed → Caller → Option ℕ → FileArgument → PatternArgument → List ℕ → Choice → ModelStep
integrates_at d e caller change from to s choice = elim choice [
  | PassedOver ↦ nothing
  | At n ↦ integrate_chosen d e caller change from to s
]

-- ---- the deeds are on the files of the client

module _ (client : List ℕ) where
  abbrev AreOwn : ModelStep → Type 0
  AreOwn step = list_all (is_of client) step.deeds ≡ true

  unless_own : (tests : List (Option Refusal)) (step : ModelStep) → AreOwn step → AreOwn (unless tests step)
  unless_own [] step own = own
  unless_own (None ∷ tests) step own = unless_own tests step own
  unless_own (Some why ∷ tests) step own = refl

module _ (d : List Deed) (caller : Caller) (change : Option ℕ) where
  three : (same caller.client caller.client && (same caller.client caller.client && (same caller.client caller.client && true))) ≡ true
  three = λ i. same-self caller.client i && (same-self caller.client i && (same-self caller.client i && true))

  live_own : (s t : List ℕ) (first last : ℕ) → AreOwn caller.client (integrate_live d caller change s t first last)
  live_own s t first last = go (is_live_head d t)
    where
      go : (b : Bool) → AreOwn caller.client (if b
          then does (Open (opening d caller change model.Integrate (type_at d t (head d t)) t None) ∷ Got (held caller t) (head d t) ∷ Owe (owing caller s t first last) ∷ [])
          (integrate_row s t first last model.Integrate)
          else does (Open (opening d caller change model.Branch (type_at d s last) t (Some (record { path = s; rev = last }))) ∷ Owe (owing caller s t first last)
          ∷ Paid (held caller t) s model.BranchFrom ∷ []) (integrate_row s t first last model.Branch))
      go true = three
      go false = three

  deleted_own : (s t : List ℕ) (first last : ℕ) → AreOwn caller.client (integrate_deleted d caller change s t first last)
  deleted_own s t first last = go (is_live_head d t)
    where
      go : (b : Bool) → AreOwn caller.client (if b
          then does (Open (opening d caller change model.Delete (type_at d t (head d t)) t None) ∷ Owe (owing caller s t first last) ∷ Paid (held caller t) s model.DeleteFrom ∷ [])
          (integrate_row s t first last model.Delete)
          else refuses (AllIntegrated t))
      go true = three
      go false = refl

  revs_own : (s t revs : List ℕ) → AreOwn caller.client (integrate_revs d caller change s t revs)
  revs_own s t [] = refl
  revs_own s t (first ∷ revs) = by_last (unwrap_or (last_or (Some first) revs) first)
    where
      by_last : (last : ℕ) → AreOwn caller.client (if is_live_at d s last then integrate_live d caller change s t first last else integrate_deleted d caller change s t first last)
      by_last last = go (is_live_at d s last)
        where
          go : (b : Bool) → AreOwn caller.client (if b then integrate_live d caller change s t first last else integrate_deleted d caller change s t first last)
          go true = live_own s t first last
          go false = deleted_own s t first last

  module _ (e : List Deed) (from : FileArgument) (to : PatternArgument) (s : List ℕ) where
    to_own : (wanted : Wanted) (t : List ℕ) → AreOwn caller.client (integrate_to d e caller change wanted s t)
    to_own wanted t =
        let revs = uncredited d caller wanted s t in
        unless_own caller.client (
        right_refusal to_open d caller t
        ∷ refuse_if (not (is_some (shown d caller Head t))) (NotInView (printed t))
        ∷ refuse_if (is_some (opened e caller.client t)) (AlreadyOpen t)
        ∷ exclusive_refusal e t caller.client (new_type d s t (unwrap_or (last_or None revs) 0))
        ∷ [])
        (integrate_revs d caller change s t revs) (revs_own s t revs)

    chosen_own : AreOwn caller.client (integrate_chosen d e caller change from to s)
    chosen_own = go (target_at d caller to (target_text d caller from to s))
      where
        go : (o : Option (List ℕ)) → AreOwn caller.client (elim o as (λ _. ModelStep) [
          | None ↦ refuses (NotInView (printed (target_text d caller from to s)))
          | Some t ↦ integrate_to d e caller change from.spec.wanted s t
        ])
        go None = refl
        go (Some t) = to_own from.spec.wanted t

    at_own : (choice : Choice) → AreOwn caller.client (integrates_at d e caller change from to s choice)
    at_own PassedOver = refl
    at_own (At n) = chosen_own

    pub file_own : AreOwn caller.client (integrate_file d caller change from to e s)
    file_own =
        unless_own caller.client (right_refusal to_read d caller s ∷ []) (integrates_at d e caller change from to s (chosen d caller s from.spec.wanted))
        (at_own (chosen d caller s from.spec.wanted))
