-- What an event leaves unanswered.
use Rattle.std.proofs.Common.{◌≡◌, ℕ, Bool, true, false, cond, List, [], ◌∷◌, ◌++◌, set, Option, Some, None, refl, sym, ap, subst, ◌∙◌, append-nil}
use Rattle.std.specs.Prelude.{slice_get}
use Rattle.std.specs.List.{list_any}
use Rattle.depot_rows.specs.db_records.declared.table.TableId.{TableId}
use Rattle.depot_rows.specs.db_records.declared.table.TableId.TheVariants.{Rev}
use Rattle.depot_rows.specs.depot_model.Commands.{step}
use Rattle.depot_rows.specs.depot_model.Deeds.{Deed}
use Rattle.depot_rows.specs.depot_model.Places.{done_at}
use Rattle.depot_rows.specs.depot_model.Step.{after}
use Rattle.depot_rows.specs.depot_model.Tables.{Need, needs_of}
use Rattle.depot_rows.specs.depot_model.declared.request.Request.{Request}
use Rattle.lock_machine.specs.Machine.{Seen, Work, Party, Commit, State, Finish, Done, is_stale, worked, moved, may_go, may_party, is_enabled, placed, added, added_at, acted, acts, event, stops, stopped}
use Rattle.lock_machine.specs.Runs.{AreChanged, IsTold, depot_after}
use Rattle.lock_machine.specs.declared.stage.Stage.{Stage}
use Rattle.lock_machine.specs.declared.stage.Stage.TheVariants.{Gathering, Judged, Committed}
use Rattle.lock_machine.proofs.Places.{set_here}
use Rattle.session_turns.specs.Running.{unanswered, unanswered_at, unanswered_by}

abbrev pub IsJudged : Party → Type 0
IsJudged p = (w : Work) × (p.work ≡ Some w) × (w.stage ≡ Judged)

-- ---- a party's event

abbrev at : Request → Stage → Bool → List Seen → List Need → Work
at request stage second seen rest = record { request = request; stage = stage; second = second; seen = seen; rest = rest }

module _ (order : List Commit) (left : List Request) where
  judged_left : (request : Request) (second : Bool) (seen : List Seen) (stale : Bool)
      → unanswered_by left (Some (cond stale (at request Gathering true [] (needs_of request)) (at request Judged second seen []))) ≡ request ∷ left
  judged_left request second seen true = refl
  judged_left request second seen false = refl

  worked_left : (request : Request) (stage : Stage) (second : Bool) (seen : List Seen) (rest : List Need) → (stage ≡ Judged → ⊥)
      → unanswered_by left (worked needs_of order (at request stage second seen rest) stage) ≡ unanswered_at left request stage
  worked_left request Gathering second seen [] none = judged_left request second seen (list_any (is_stale order second) seen)
  worked_left request Gathering second seen (need ∷ rest) none = refl
  worked_left request Judged second seen rest none = absurd (none refl)
  worked_left request Committed second seen rest none = refl

pub moved_left : (order : List Commit) (left : List Request) (work : Option Work) → ((w : Work) → work ≡ Some w → w.stage ≡ Judged → ⊥)
    → unanswered (moved needs_of order left work) ≡ unanswered_by left work
moved_left order [] None none = refl
moved_left order (request ∷ left) None none = refl
moved_left order left (Some w) none = worked_left order left w.request w.stage w.second w.seen w.rest (none w refl)

added_none : (work : Option Work) (how : Finish) → ((w : Work) → work ≡ Some w → w.stage ≡ Judged → ⊥) → added work how ≡ []
added_none None how none = refl
added_none (Some w) how none = go w.stage (none w refl)
  where
    go : (stage : Stage) → (stage ≡ Judged → ⊥) → added_at w.request stage how ≡ []
    go Gathering none = refl
    go Judged none = absurd (none refl)
    go Committed none = refl

module _ (s : State) (i : ℕ) (p : Party) (there : slice_get s.parties i ≡ Some p) (enabled : is_enabled s i ≡ true) where
  pub acted_is : (how : Finish) → event needs_of s i how ≡ acted needs_of s i p how
  acted_is how =
      let may : may_go s.parties p.left p.work ≡ true = sym (ap (may_party s.parties) there) ∙ enabled in
      ap (acts needs_of s i how) there ∙ ap (λ b. cond b (acted needs_of s i p how) s) may

  -- where no commit is at hand, no place comes
  abbrev pub quiet_after : State
  quiet_after = record { parties = set s.parties i (moved needs_of s.order p.left p.work); order = s.order }

  pub quiet_is : (IsJudged p → ⊥) → (how : Finish) → event needs_of s i how ≡ quiet_after
  quiet_is none how =
      acted_is how
      ∙ ap (λ (o : List Commit). record { parties = set s.parties i (moved needs_of s.order p.left p.work); order = o })
      (ap (λ (more : List Commit). s.order ++ more) (added_none p.work how (λ w has is. none (w, has, is))) ∙ append-nil s.order)

  pub quiet_left : (IsJudged p → ⊥) → unanswered (moved needs_of s.order p.left p.work) ≡ unanswered p
  quiet_left none = moved_left s.order p.left p.work (λ w has is. none (w, has, is))

  -- where one is, it comes
  module _ (w : Work) (has : p.work ≡ Some w) (is : w.stage ≡ Judged) where
    abbrev pub committed : Party
    committed = record { left = p.left; work = Some (record w { stage = Committed }) }

    abbrev pub commit_after : Finish → State
    commit_after how = record { parties = set s.parties i committed; order = s.order ++ placed w.request how }

    moved_is : moved needs_of s.order p.left p.work ≡ committed
    moved_is = ap (moved needs_of s.order p.left) has ∙ ap (λ st. record { left = p.left; work = worked needs_of s.order w st }) is

    added_is : (how : Finish) → added p.work how ≡ placed w.request how
    added_is how = ap (λ work. added work how) has ∙ ap (λ st. added_at w.request st how) is

    pub commit_is : (how : Finish) → event needs_of s i how ≡ commit_after how
    commit_is how = acted_is how ∙ (λ k. record { parties = set s.parties i (moved_is k); order = s.order ++ added_is how k })

    pub commit_left : unanswered p ≡ w.request ∷ p.left
    commit_left = ap (unanswered_by p.left) has ∙ ap (unanswered_at p.left w.request) is

    -- and the party then stops
    pub stopped_is : (how : Finish) → stopped (commit_after how) i ≡ record { parties = set (set s.parties i committed) i (record committed { left = [] }); order = s.order ++ placed w.request how }
    stopped_is how = ap (stops (commit_after how) i) (set_here s.parties i p committed there)

-- ---- a party that goes on however a commit would end has none at hand

told_last : (d : List Deed) (order : List Commit) (c : Commit) → IsTold d (order ++ c ∷ []) → AreChanged (depot_after d order) (after (depot_after d order) (done_at step (depot_after d order) c.place)) c.changed
told_last d [] c told = told.0
told_last d (first ∷ order) c told = told_last (after d (done_at step d first.place)) order c told.1

pub never_judged : (start : List Deed) (s : State) (i : ℕ) (p : Party) → slice_get s.parties i ≡ Some p → is_enabled s i ≡ true → ((how : Finish) → IsTold start (event needs_of s i how).order) → IsJudged p → ⊥
never_judged start s i p there enabled told (w, has, is) =
    let commit : List TableId → Commit = λ changed. record { place = record { request = Some w.request; fault = false }; changed = changed } in
    let Told : State → Type 0 = λ t. IsTold start t.order in
    let last : (changed : List TableId) → AreChanged (depot_after start s.order) (after (depot_after start s.order) (done_at step (depot_after start s.order) (commit []).place)) changed
    = λ changed. told_last start s.order (commit changed) (subst Told (commit_is s i p there enabled w has is (Done changed)) (told (Done changed))) in
    let one = (last (Rev ∷ [])).differ Rev refl in
    one.2 ((last []).same one.0 refl)
