-- One more turn of one of the parties.
use Rattle.std.proofs.Common.{◌≡◌, ◌≢◌, ◌⊎◌, ℕ, ◌+◌, Bool, true, false, cond, List, [], ◌∷◌, ◌++◌, length, map, drop, set, Option, Some, None, refl, sym, ap, subst, ◌∙◌, inl, inr}
use Rattle.std.specs.Prelude.{slice_get}
use Rattle.std.proofs.lemmas.List.{length-set, map-append, map_push}
use Rattle.depot_rows.specs.depot_model.Places.{Placed, taken, told_at}
use Rattle.depot_rows.specs.depot_model.Printed.{printed}
use Rattle.depot_rows.specs.depot_model.Rows.{memory_row}
use Rattle.depot_rows.specs.depot_model.Tables.{needs_of}
use Rattle.depot_rows.specs.depot_model.declared.order.Place.{Place}
use Rattle.depot_rows.specs.depot_model.declared.request.Request.{Request}
use Rattle.depot_runs.specs.Run.{placed}
use Rattle.depot_rows.specs.depot_model.Commands.{step}
use Rattle.lock_machine.specs.Machine.{Commit, Finish, Party, State, Work, event, is_enabled, stopped}
use Rattle.lock_machine.specs.Machine as machine
use Rattle.lock_machine.specs.declared.stage.Stage.TheVariants.{Judged}
use Rattle.lock_machine.proofs.Places.{some_is}
use Rattle.run_parties.proofs.Counts.{count_at, session_at}
use Rattle.run_parties.proofs.Making.{asked_count}
use Rattle.run_parties.proofs.Naming.{IsOf, moment_is, named, number_is, party_is, placed_is}
use Rattle.run_parties.proofs.Slots.{also_at, at_set, drop_next}
use Rattle.run_parties.specs.Giving.{Got}
use Rattle.run_parties.specs.Served.{session_counts}
use Rattle.session_loop.specs.Taking.{place_by, placed_by}
use Rattle.session_loop.specs.declared.session.SessionRun.{SessionRun}
use Rattle.session_turns.proofs.Events.{IsJudged, commit_after, commit_is, commit_left, committed, quiet_is, quiet_left, stopped_is}
use Rattle.session_turns.proofs.Orders.{IsNext, next_placed, next_unplaced, served_more}
use Rattle.session_turns.specs.Drawn.{ended}
use Rattle.session_turns.specs.Running.{IsUnderWay, Scene, left_after, unanswered}

abbrev pub places_of : List Commit → List Placed
places_of order = map (λ (c : Commit). c.place) order

module _ (may_give : ℕ → Type 0) (scene : Scene) (s : State) (runs : List SessionRun) (now : List (Option (List ℕ))) (order : List Place) (u : IsUnderWay may_give scene s runs now order) (i : ℕ) (p : Party) (there : slice_get s.parties i ≡ Some p) (enabled : is_enabled s i ≡ true) where
  abbrev UnderWay : State → Type 0
  UnderWay t = IsUnderWay may_give scene t runs now order

  -- no commit is at hand
  pub quiet_more : (IsJudged p → ⊥) → (how : Finish) → IsUnderWay may_give scene (event needs_of s i how) runs now order
  quiet_more none how = subst UnderWay (sym (quiet_is s i p there enabled none how)) (record {
    served = u.served;
    as_many = u.as_many;
    apart = u.apart;
    asked = u.asked;
    count = length-set s.parties i (machine.moved needs_of s.order p.left p.work) ∙ u.count;
    left = λ j own run q at_own at_run at_q.
        elim (at_set s.parties i j (machine.moved needs_of s.order p.left p.work) q at_q) [
          | inl here ↦
              ap unanswered here.1 ∙ (quiet_left s i p there enabled none
              ∙ u.left j own run p at_own at_run (ap (slice_get s.parties) (sym here.0) ∙ there))
          | inr apart ↦ u.left j own run q at_own at_run apart.1
        ];
    order_is = u.order_is;
  })

  -- ---- a commit at hand

  pub record IsHere : Type 0 where
    pub own : List Request
    pub run : SessionRun
    pub at_own : slice_get scene.requests i ≡ Some own
    pub at_run : slice_get runs i ≡ Some run

  pub here : IsHere
  here =
      let own = also_at s.parties scene.requests i p (u.count ∙ sym (asked_count may_give 1 scene.sessions scene.requests u.asked)) there in
      let run = also_at s.parties runs i p (u.count ∙ sym u.served.count) there in
      record { own = own.0; run = run.0; at_own = own.1; at_run = run.1 }

  abbrev pub n : ℕ
  n = here.run.commands

  module _ (w : Work) (has : p.work ≡ Some w) (is : w.stage ≡ Judged) where
    left_is : left_after here.own here.run ≡ w.request ∷ p.left
    left_is = sym (u.left i here.own here.run p here.at_own here.at_run there) ∙ commit_left s i p there enabled w has is

    pub whole : here.run.failed ≡ false
    whole = go here.run.failed left_is
      where
        go : (b : Bool) → cond b [] (drop n here.own) ≡ w.request ∷ p.left → b ≡ false
        go true e = absurd cc
        go false e = refl

    rest_is : drop n here.own ≡ w.request ∷ p.left
    rest_is = ap (λ (b : Bool). cond b [] (drop n here.own)) (sym whole) ∙ left_is

    pub its : IsOf may_give scene.sessions i n w.request
    its = named may_give scene.sessions scene.requests u.asked i n here.own w.request here.at_own (drop_next here.own n w.request p.left rest_is).0

    -- the party is no replica
    pub is_session : slice_get scene.scripts i ≡ Some None
    is_session = session_at scene.sessions scene.scripts i its.session u.as_many u.apart its.has

    pub at_count : slice_get (session_counts scene.scripts runs) i ≡ Some n
    at_count = count_at scene.scripts runs i here.run is_session here.at_run

    -- there is one more
    pub more_left : (slice_get here.own n ≡ Some w.request) × (drop (n + 1) here.own ≡ p.left)
    more_left = drop_next here.own n w.request p.left rest_is

    -- the places with that of its request behind them
    pub places_more : (fault : Bool) → map (placed scene.sessions) (order ++ place_by w.request fault ∷ []) ≡ map (placed scene.sessions) order ++ placed_by w.request fault ∷ []
    places_more fault = map_push (placed scene.sessions) order (place_by w.request fault) ∙ ap (λ (x : Placed). map (placed scene.sessions) order ++ x ∷ []) (placed_is may_give scene.sessions i n w.request its fault)

    pub next_with : (fault : Bool) → IsNext may_give scene.sessions scene.start (session_counts scene.scripts runs) i n order (order ++ place_by w.request fault ∷ []) (printed (told_at step (taken step scene.start (map (placed scene.sessions) order)) (placed_by w.request fault)) w.request.number)
    next_with fault =
        let depot = taken step scene.start (map (placed scene.sessions) order) in
        let P : List ℕ → Type 0 = IsNext may_give scene.sessions scene.start (session_counts scene.scripts runs) i n order (order ++ place_by w.request fault ∷ []) in
        subst P (ap (λ (x : Placed). printed (told_at step depot x) (n + 1)) (placed_is may_give scene.sessions i n w.request its fault) ∙ ap (printed (told_at step depot (placed_by w.request fault))) (sym (number_is may_give scene.sessions i n w.request its)))
        (next_placed may_give scene.sessions scene.start (session_counts scene.scripts runs) i n order at_count u.served.places (place_by w.request fault) (party_is may_give scene.sessions i n w.request its) (number_is may_give scene.sessions i n w.request its)
        (moment_is may_give scene.sessions i n w.request its))

    pub next_without : IsNext may_give scene.sessions scene.start (session_counts scene.scripts runs) i n order order (printed (memory_row ∷ []) (n + 1))
    next_without = next_unplaced may_give scene.sessions scene.start (session_counts scene.scripts runs) i n order at_count u.served.places

    -- ---- the parties after it

    module _ (how : Finish) (order' : List Place) (text : List ℕ) (next : IsNext may_give scene.sessions scene.start (session_counts scene.scripts runs) i n order order' text)
        (order_is : map (placed scene.sessions) order' ≡ places_of s.order ++ places_of (machine.placed w.request how)) (failed : Bool) (got new : Option (List ℕ)) (at_got : slice_get now i ≡ Some got) (gives : Got failed text got new) where
      abbrev run' : SessionRun
      run' = record { commands = n + 1; failed = failed }

      abbrev After : State → Type 0
      After t = IsUnderWay may_give scene t (set runs i run') (set now i new) order'

      -- of a party it is, or isn't, that whose commit it was
      module _ (parties : List Party) (as_many : length parties ≡ length s.parties)
          (each : (j : ℕ) (q : Party) → slice_get parties j ≡ Some q → ((i ≡ j) × (unanswered q ≡ left_after here.own run')) ⊎ ((i ≢ j) × (slice_get s.parties j ≡ Some q))) where
        after_it : After (record { parties = parties; order = s.order ++ machine.placed w.request how })
        after_it = record {
          served = served_more may_give scene.sessions scene.start (session_counts scene.scripts runs) i n order scene.scripts runs refl is_session here.run here.at_run refl whole scene.before now u.served order' text next failed got new at_got gives;
          as_many = u.as_many;
          apart = u.apart;
          asked = u.asked;
          count = as_many ∙ u.count;
          left = λ j own run q at_own at_run at_q.
              elim (at_set runs i j run' run at_run) [
                | inl same ↦ elim (each j q at_q) [
                  | inl one ↦ one.1 ∙ (ap (λ (o : List Request). left_after o run') (own_is j own same.0 at_own) ∙ ap (left_after own) (sym same.1))
                  | inr other ↦ absurd (other.0 same.0)
                ]
                | inr apart ↦ elim (each j q at_q) [
                  | inl one ↦ absurd (apart.0 one.0)
                  | inr other ↦ u.left j own run q at_own apart.1 other.1
                ]
              ];
          order_is = order_is ∙ sym (map-append (λ (c : Commit). c.place) s.order (machine.placed w.request how));
        }
          where
            own_is : (j : ℕ) (own : List Request) → i ≡ j → slice_get scene.requests j ≡ Some own → here.own ≡ own
            own_is j own same at_own = some_is (sym here.at_own ∙ (ap (slice_get scene.requests) same ∙ at_own))

      goes_on : failed ≡ false → After (commit_after s i p there enabled w has is how)
      goes_on good = after_it (set s.parties i (committed s i p there enabled w has is)) (length-set s.parties i (committed s i p there enabled w has is)) (λ j q at_q.
          elim (at_set s.parties i j (committed s i p there enabled w has is) q at_q) [
            | inl one ↦ inl (one.0, ap unanswered one.1 ∙ (sym more_left.1 ∙ ap (λ (b : Bool). cond b [] (drop (n + 1) here.own)) (sym good)))
            | inr other ↦ inr other
          ])

      abbrev stopping : Party
      stopping = record (committed s i p there enabled w has is) { left = [] }

      stops_here : failed ≡ true → After (record { parties = set (set s.parties i (committed s i p there enabled w has is)) i stopping; order = s.order ++ machine.placed w.request how })
      stops_here bad = after_it (set (set s.parties i (committed s i p there enabled w has is)) i stopping)
          (length-set (set s.parties i (committed s i p there enabled w has is)) i stopping ∙ length-set s.parties i (committed s i p there enabled w has is)) (λ j q at_q.
          elim (at_set (set s.parties i (committed s i p there enabled w has is)) i j stopping q at_q) [
            | inl one ↦ inl (one.0, ap unanswered one.1 ∙ ap (λ (b : Bool). cond b [] (drop (n + 1) here.own)) (sym bad))
            | inr other ↦ elim (at_set s.parties i j (committed s i p there enabled w has is) q other.1) [
              | inl wrong ↦ absurd (other.0 wrong.0)
              | inr same ↦ inr same
            ]
          ])

      pub commit_more : After (ended (event needs_of s i how) i failed)
      commit_more = go failed refl
        where
          go : (b : Bool) → failed ≡ b → After (ended (event needs_of s i how) i b)
          go false good = subst After (sym (commit_is s i p there enabled w has is how)) (goes_on good)
          go true bad = subst After (sym (ap (λ (t : State). stopped t i) (commit_is s i p there enabled w has is how) ∙ stopped_is s i p there enabled w has is how)) (stops_here bad)
