-- One more answer to one of the parties, whatever the depot.
use Rattle.std.proofs.Common.{◌≡◌, ◌≢◌, ℕ, ◌+◌, ◌≤◌, ◌<◌, Bool, true, false, cond, List, [], ◌∷◌, length, map, set, Option, Some, None, Result, refl, sym, ap, subst, ◌∙◌, arith, inl, inr, Vec, Global}
use Rattle.std.specs.Prelude.{nat_lt, slice_get, option_map}
use Rattle.std.specs.Option.{IsSomeAnd}
use Rattle.std.proofs.lemmas.Bool.{ltb-false, ltb-true}
use Rattle.std.proofs.lemmas.List.{length-set, map-set}
use Rattle.std.proofs.lemmas.Option.{slice_get-map, slice_get_within}
use Rattle.outside_api.specs.Says.{SinkSays}
use Rattle.depot_rows.specs.depot_model.Deeds.{Deed}
use Rattle.depot_rows.specs.depot_model.Order.{IsOrder}
use Rattle.depot_rows.specs.depot_model.Printed.{printed}
use Rattle.depot_rows.specs.depot_model.Rows.{memory_row}
use Rattle.depot_rows.specs.depot_model.declared.order.Answer.{Answer}
use Rattle.depot_rows.specs.depot_model.declared.order.Place.{Place}
use Rattle.depot_rows.specs.depot_model.declared.request.Session.{Session}
use Rattle.lock_machine.proofs.Places.{one_or_apart, set_here, set_there, some_is}
use Rattle.run_parties.proofs.Counts.{count_at, counts_stay}
use Rattle.run_parties.proofs.Slots.{at_set}
use Rattle.run_parties.specs.Giving.{Got, text_of}
use Rattle.run_parties.specs.Served.{AreServed, session_counts}
use Rattle.session_loop.specs.declared.reading.ReplicaScript.{ReplicaScript}
use Rattle.session_loop.specs.declared.session.SessionRun.{SessionRun}
use Rattle.session_turns.proofs.Orders.{next_unplaced, served_more}
use Rattle.session_turns.specs.Running.{AreWithin, IsWithin}
use Rattle.session_turns.specs.Taking.{StayWithin}
use Rattle.session_turns.specs.declared.turns.Turns.{Turns}
use Rattle.session_turns.specs.Answering.{AnswersNone, IsAnsweredAt, IsDoneAt, IsSameAt, StayFailed, has_left_at, has_more_at, left_count, reply_in, reply_of}

-- ---- what a test says

more_than : (found : Option SessionRun) (bound : Option ℕ) → has_more_at found bound ≡ true → (run : SessionRun) (total : ℕ) → found ≡ Some run → bound ≡ Some total → run.commands < total
more_than None bound more run total is bound_is = absurd cc
more_than (Some r) None more run total is bound_is = absurd cc
more_than (Some r) (Some t) more run total is bound_is =
    let same = some_is is in
    let bound_same = some_is bound_is in
    let low = ltb-true r.commands t more in
    let count = ap (λ (x : SessionRun). x.commands) same in
    omega (arith, low, count, bound_same)

no_bound : (found : Option SessionRun) → has_more_at found None ≡ true → ⊥
no_bound None e = cc
no_bound (Some r) e = cc

-- there is such a party
pub more_there : (runs : List SessionRun) (at : ℕ) (bound : Option ℕ) → has_more_at (slice_get runs at) bound ≡ true → at < length runs
more_there runs at bound more = go (slice_get runs at) refl more
  where
    go : (found : Option SessionRun) → slice_get runs at ≡ found → has_more_at found bound ≡ true → at < length runs
    go None is more = absurd cc
    go (Some run) is more = slice_get_within runs at run is

pub left_more : (found : Option SessionRun) (bound : Option ℕ) → has_left_at found bound ≡ true → (has_more_at found bound ≡ true) × ((run : SessionRun) → found ≡ Some run → run.failed ≡ false)
left_more None bound left = absurd cc
left_more (Some r) bound left = go r.failed refl left
  where
    go : (b : Bool) → r.failed ≡ b → cond b false (has_more_at (Some r) bound) ≡ true → (has_more_at (Some r) bound ≡ true) × ((run : SessionRun) → Some r ≡ Some run → run.failed ≡ false)
    go true is left = absurd cc
    go false is left = (left, λ run same. ap (λ (x : SessionRun). x.failed) (sym (some_is same)) ∙ is)

pub none_left_at : (runs : List SessionRun) (totals : List ℕ) (at : ℕ) → has_left_at (slice_get runs at) (slice_get totals at) ≡ false → IsDoneAt runs totals at
none_left_at runs totals at none run total at_run at_total whole =
    let P : Option SessionRun → Option ℕ → Type 0 = λ r t. has_left_at r t ≡ false in
    let said : has_left_at (Some run) (Some total) ≡ false = subst (λ (t : Option ℕ). P (Some run) t) at_total (subst (λ (r : Option SessionRun). P r (slice_get totals at)) at_run none) in
    let no_more : nat_lt run.commands total ≡ false = ap (λ (b : Bool). cond b false (nat_lt run.commands total)) (sym whole) ∙ said in
    least run.commands total no_more
  where
    least : (a b : ℕ) → nat_lt a b ≡ false → b ≤ a
    least a b none = ltb-false a b none

-- what the test says of the lists that it was handed
pub has_more_here : {result : Bool} (at : ℕ) (rs runs : List SessionRun) (ts totals : List ℕ) (b : Bool) → rs ≡ runs → ts ≡ totals → result ≡ has_more_at (slice_get rs at) (slice_get ts at) → result ≡ b
    → has_more_at (slice_get runs at) (slice_get totals at) ≡ b
has_more_here at rs runs ts totals b runs_are totals_are said is = sym (λ k. has_more_at (slice_get (runs_are k) at) (slice_get (totals_are k) at)) ∙ (sym said ∙ is)

-- what has commands left isn't done
pub not_done : (runs runs' : List SessionRun) (totals : List ℕ) (at : ℕ) → slice_get runs' at ≡ slice_get runs at → has_left_at (slice_get runs' at) (slice_get totals at) ≡ true → IsDoneAt runs totals at → ⊥
not_done runs runs' totals at same left done = go (slice_get runs at) refl (slice_get totals at) refl
  where
    left_now : has_left_at (slice_get runs at) (slice_get totals at) ≡ true
    left_now = ap (λ (r : Option SessionRun). has_left_at r (slice_get totals at)) (sym same) ∙ left

    go : (found : Option SessionRun) → slice_get runs at ≡ found → (total : Option ℕ) → slice_get totals at ≡ total → ⊥
    go None at_run total at_total = let none : has_left_at None (slice_get totals at) ≡ true = ap (λ (r : Option SessionRun). has_left_at r (slice_get totals at)) (sym at_run) ∙ left_now in cc
    go (Some run) at_run total at_total =
        let more = left_more (slice_get runs at) (slice_get totals at) left_now in
        bounded run at_run total at_total more.0 (more.1 run at_run)
      where
        bounded : (run : SessionRun) → slice_get runs at ≡ Some run → (total : Option ℕ) → slice_get totals at ≡ total → has_more_at (slice_get runs at) (slice_get totals at) ≡ true → run.failed ≡ false → ⊥
        bounded run at_run None at_total more whole = no_bound (slice_get runs at) (ap (has_more_at (slice_get runs at)) (sym at_total) ∙ more)
        bounded run at_run (Some total) at_total more whole =
            let low = more_than (slice_get runs at) (slice_get totals at) more run total at_run at_total in
            let high = done run total at_run at_total whole in
            omega (arith, low, high)

pub done_same : (runs runs' : List SessionRun) (totals : List ℕ) (i : ℕ) → slice_get runs' i ≡ slice_get runs i → IsDoneAt runs totals i → IsDoneAt runs' totals i
done_same runs runs' totals i same done = λ run total at_run. done run total (sym same ∙ at_run)

-- the text of an answer's reply is the answer's
pub reply_answered : {K E : Type 0} (sink_says : SinkSays K) (at : ℕ) (answer : Result Answer E) (reply : Result (List ℕ) E) (runs runs' : List SessionRun) (sinks sinks' : List K) (failed : Bool) → reply ≡ reply_in answer
    → IsAnsweredAt sink_says at (text_of reply) runs runs' sinks sinks' failed → IsAnsweredAt sink_says at (reply_of answer) runs runs' sinks sinks' failed
reply_answered sink_says at answer reply runs runs' sinks sinks' failed is a =
    let A : Result (List ℕ) _ → Type 0 = λ r. IsAnsweredAt sink_says at (text_of r) runs runs' sinks sinks' failed in
    subst A is a

module _ {K : Type 0} (sink_says : SinkSays K) (totals : List ℕ) (runs runs' : List SessionRun) (sinks sinks' : List K) (at : ℕ) (text : ℕ → List ℕ) (failed : Bool)
    (a : IsAnsweredAt sink_says at text runs runs' sinks sinks' failed) where
  abbrev run' : SessionRun
  run' = record { commands = a.run.commands + 1; failed = failed }

  pub within_more : (before : List K) → AreWithin sink_says totals runs before sinks → has_more_at (slice_get runs at) (slice_get totals at) ≡ true → AreWithin sink_says totals runs' before sinks'
  within_more before h more = record {
    runs_count = ap (length {A = SessionRun}) a.runs ∙ (length-set runs at run' ∙ h.runs_count);
    sinks_count = ap (length {A = K}) a.sinks ∙ (length-set sinks at a.new ∙ h.sinks_count);
    each = λ i total run old new at_total at_run at_old at_new.
        elim (at_set runs at i run' run (ap (λ (rs : List SessionRun). slice_get rs i) (sym a.runs) ∙ at_run)) [
          | inl here ↦ elim (at_set sinks at i a.new new (ap (λ (ks : List K). slice_get ks i) (sym a.sinks) ∙ at_new)) [
            | inl one ↦
                let was = h.each at total a.run old a.sink (ap (slice_get totals) here.0 ∙ at_total) a.at_run (ap (slice_get before) here.0 ∙ at_old) a.at_sink in
                let low = more_than (slice_get runs at) (slice_get totals at) more a.run total a.at_run (ap (slice_get totals) here.0 ∙ at_total) in
                let R : SessionRun → K → Type 0 = λ r k. IsWithin sink_says total r old k in
                subst (λ (r : SessionRun). R r new) (sym here.1) (subst (λ (k : K). R run' k) (sym one.1) (record {
                  within = omega (arith, low);
                  counts = let first = was.counts in let second = a.counts in omega (arith, first, second);
                  cause = λ is. let first = was.counts in let second = a.cause is in omega (arith, first, second);
                }))
            | inr wrong ↦ absurd (wrong.0 here.0)
          ]
          | inr there ↦ elim (at_set sinks at i a.new new (ap (λ (ks : List K). slice_get ks i) (sym a.sinks) ∙ at_new)) [
            | inl wrong ↦ absurd (there.0 wrong.0)
            | inr same ↦ h.each i total run old new at_total there.1 at_old same.1
          ]
        ];
  }

  -- as many sinks as runs
  pub as_many_more : length sinks ≡ length runs → length sinks' ≡ length runs'
  as_many_more same = ap (length {A = K}) a.sinks ∙ (length-set sinks at a.new ∙ (same ∙ sym (ap (length {A = SessionRun}) a.runs ∙ length-set runs at run')))

  pub count_more : length sinks' ≡ length sinks
  count_more = ap (length {A = K}) a.sinks ∙ length-set sinks at a.new

  pub others_same : (j : ℕ) → j ≢ at → IsSameAt j runs runs' sinks sinks'
  others_same j apart = (
    ap (λ (rs : List SessionRun). slice_get rs j) a.runs ∙ set_there runs at j run' (λ e. apart (sym e)),
    ap (λ (ks : List K). slice_get ks j) a.sinks ∙ set_there sinks at j a.new (λ e. apart (sym e)),
  )

  pub stay_more : a.run.failed ≡ false → StayFailed runs runs'
  stay_more whole = λ j run at_j is.
      let Q : List SessionRun → Type 0 = λ rs. IsSomeAnd (slice_get rs j) (λ (r : SessionRun). r.failed ≡ true) in
      let R : Option SessionRun → Type 0 = λ found. IsSomeAnd found (λ (r : SessionRun). r.failed ≡ true) in
      subst Q (sym a.runs) (
      elim (one_or_apart at j) [
        | inl same ↦ absurd (
            let one : a.run ≡ run = some_is (sym a.at_run ∙ (ap (slice_get runs) same ∙ at_j)) in
            let both : true ≡ false = sym is ∙ (ap (λ (x : SessionRun). x.failed) (sym one) ∙ whole) in
            cc)
        | inr apart ↦ subst R (sym (set_there runs at j run' apart ∙ at_j)) is
      ]
      )

  -- fewer are left
  pub fewer : has_more_at (slice_get runs at) (slice_get totals at) ≡ true → left_count (slice_get runs' at) (slice_get totals at) < left_count (slice_get runs at) (slice_get totals at)
  fewer more =
      let P : Option SessionRun → Type 0 = λ found. left_count found (slice_get totals at) < left_count (slice_get runs at) (slice_get totals at) in
      let Q : Option SessionRun → Type 0 = λ found. left_count (Some run') (slice_get totals at) < left_count found (slice_get totals at) in
      subst P (sym (ap (λ (rs : List SessionRun). slice_get rs at) a.runs ∙ set_here runs at a.run run' a.at_run)) (subst Q (sym a.at_run) (go (slice_get totals at) refl))
    where
      go : (bound : Option ℕ) → slice_get totals at ≡ bound → left_count (Some run') bound < left_count (Some a.run) bound
      go None is = absurd (no_bound (slice_get runs at) (ap (has_more_at (slice_get runs at)) (sym is) ∙ more))
      go (Some total) is = let low = more_than (slice_get runs at) (slice_get totals at) more a.run total a.at_run is in omega (arith, low)

-- an answer of a party that isn't a session
pub served_other : {K : Type 0} (sink_says : SinkSays K) (runs runs' : List SessionRun) (sinks sinks' : List K) (at : ℕ) (text : ℕ → List ℕ) (failed : Bool) (a : IsAnsweredAt sink_says at text runs runs' sinks sinks' failed)
    (may_give : ℕ → Type 0) (sessions : List (Option Session)) (scripts : List (Option ReplicaScript)) (start : List Deed) (before : List (Option (List ℕ))) (order : List Place) → AreServed may_give sessions scripts start runs before (map sink_says.given sinks) order
    → slice_get scripts at ≢ Some None → AreServed may_give sessions scripts start runs' before (map sink_says.given sinks') order
served_other sink_says runs runs' sinks sinks' at text failed a may_give sessions scripts start before order h other =
    let run' : SessionRun = record { commands = a.run.commands + 1; failed = failed } in
    let S : List SessionRun → List (Option (List ℕ)) → Type 0 = λ rs now. AreServed may_give sessions scripts start rs before now order in
    let sinks_are : map sink_says.given sinks' ≡ set (map sink_says.given sinks) at (sink_says.given a.new) = ap (map sink_says.given) a.sinks ∙ map-set sink_says.given sinks at a.new in
    subst (λ (rs : List SessionRun). S rs (map sink_says.given sinks')) (sym a.runs) (subst (S (set runs at run')) (sym sinks_are) (record {
      count = length-set runs at run' ∙ h.count;
      places = subst (λ (cs : List ℕ). IsOrder may_give cs order) (sym (counts_stay scripts runs at run' other)) h.places;
      each = λ j r was has at_script at_r at_was at_has.
          elim (at_set runs at j run' r at_r) [
            | inl here ↦ absurd (other (ap (slice_get scripts) here.0 ∙ at_script))
            | inr there ↦ elim (at_set (map sink_says.given sinks) at j (sink_says.given a.new) has at_has) [
              | inl wrong ↦ absurd (there.0 wrong.0)
              | inr same ↦ h.each j r was has at_script there.1 at_was same.1
            ]
          ];
    }))

-- an answer of a command that found no memory
pub none_more : {K : Type 0} (may_give : ℕ → Type 0) (sink_says : SinkSays K) (runs runs' : List SessionRun) (sinks sinks' : List K) (at : ℕ) (text : ℕ → List ℕ) (none : (number : ℕ) → text number ≡ printed (memory_row ∷ []) number) (failed : Bool)
    (a : IsAnsweredAt sink_says at text runs runs' sinks sinks' failed)
    → a.run.failed ≡ false → AnswersNone may_give sink_says runs runs' sinks sinks'
none_more may_give sink_says runs runs' sinks sinks' at text none failed a whole = record {
  served = λ sessions scripts start before order h. go sessions scripts start before order h (slice_get scripts at) refl;
  stay = stay_more sink_says [] runs runs' sinks sinks' at text failed a whole;
}
  where
    run'' : SessionRun
    run'' = record { commands = a.run.commands + 1; failed = failed }

    -- of a session, and of any other party
    go : (sessions : List (Option Session)) (scripts : List (Option ReplicaScript)) (start : List Deed) (before : List (Option (List ℕ))) (order : List Place) → AreServed may_give sessions scripts start runs before (map sink_says.given sinks) order
        → (found : Option (Option ReplicaScript)) → slice_get scripts at ≡ found → AreServed may_give sessions scripts start runs' before (map sink_says.given sinks') order
    go sessions scripts start before order h (Some None) is =
        let count = count_at scripts runs at a.run is a.at_run in
        let next = next_unplaced may_give sessions start (session_counts scripts runs) at a.run.commands order count h.places in
        let got_at : slice_get (map sink_says.given sinks) at ≡ Some (sink_says.given a.sink) = slice_get-map sink_says.given sinks at ∙ ap (option_map sink_says.given) a.at_sink in
        let more = served_more may_give sessions start (session_counts scripts runs) at a.run.commands order scripts runs refl is a.run a.at_run refl whole before (map sink_says.given sinks) h order (printed (memory_row ∷ []) (a.run.commands + 1)) next failed (sink_says.given a.sink) (sink_says.given a.new) got_at (subst (λ (x : List ℕ). Got failed x (sink_says.given a.sink) (sink_says.given a.new)) (none (a.run.commands + 1)) a.got) in
        let S : List SessionRun → List (Option (List ℕ)) → Type 0 = λ rs now. AreServed may_give sessions scripts start rs before now order in
        let sinks_are : map sink_says.given sinks' ≡ set (map sink_says.given sinks) at (sink_says.given a.new) = ap (map sink_says.given) a.sinks ∙ map-set sink_says.given sinks at a.new in
        subst (λ (rs : List SessionRun). S rs (map sink_says.given sinks')) (sym a.runs) (subst (S (set runs at run'')) (sym sinks_are) more)
    go sessions scripts start before order h None is = served_other sink_says runs runs' sinks sinks' at text failed a may_give sessions scripts start before order h (λ e. let both = sym is ∙ e in cc)
    go sessions scripts start before order h (Some (Some script)) is = served_other sink_says runs runs' sinks sinks' at text failed a may_give sessions scripts start before order h (λ e. let both = sym is ∙ e in cc)

pub none_same : {K : Type 0} (may_give : ℕ → Type 0) (sink_says : SinkSays K) (runs : List SessionRun) (sinks : List K) → AnswersNone may_give sink_says runs runs sinks sinks
none_same may_give sink_says runs sinks = record {
  served = λ sessions scripts start before order h. h;
  stay = λ j run at is. let R : Option SessionRun → Type 0 = λ found. IsSomeAnd found (λ (r : SessionRun). r.failed ≡ true) in subst R (sym at) is;
}

pub stay_then : (first second third : List SessionRun) → StayFailed first second → StayFailed second third → StayFailed first third
stay_then first second third one two = λ j run at is. go j (slice_get second j) refl (one j run at is)
  where
    go : (j : ℕ) (found : Option SessionRun) → slice_get second j ≡ found → IsSomeAnd found (λ (r : SessionRun). r.failed ≡ true) → IsSomeAnd (slice_get third j) (λ (r : SessionRun). r.failed ≡ true)
    go j None at has = absurd has
    go j (Some r) at has = two j r at has

pub none_then : {K : Type 0} (may_give : ℕ → Type 0) (sink_says : SinkSays K) (runs mid new : List SessionRun) (sinks middle last : List K) → AnswersNone may_give sink_says runs mid sinks middle → AnswersNone may_give sink_says mid new middle last → AnswersNone may_give sink_says runs new sinks last
none_then may_give sink_says runs mid new sinks middle last first second = record {
  served = λ sessions scripts start before order h. second.served sessions scripts start before order (first.served sessions scripts start before order h);
  stay = stay_then runs mid new first.stay second.stay;
}

-- one turn after the other
pub within_then : {D K : Type 0} (sink_says : SinkSays K) (old mid new : Turns D K) → StayWithin sink_says old mid → StayWithin sink_says mid new → StayWithin sink_says old new
within_then sink_says old mid new one two = (
  two.0 ∙ one.0,
  λ before h.
      let Within : Turns _ _ → Vec ℕ Global → Type 0 = λ turns totals. AreWithin sink_says totals.items turns.runs.items before turns.sinks.items in
      subst (Within new) one.0 (two.1 before (subst (Within mid) (sym one.0) (one.1 before h))),
)
