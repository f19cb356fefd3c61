-- The parties together: what each was answered by itself is what one order of all commands says.
use Rattle.std.proofs.Common.{◌≡◌, ◌<◌, ◌≤◌, ◌+◌, ◌-◌, ℕ, zero, suc, Bool, true, false, cond, eqb, List, [], ◌∷◌, length, map, Option, Some, None, refl, sym, ap, subst, ◌∙◌, arith}
use Rattle.std.specs.Prelude.{AllPairs, slice_get, slice_index_or}
use Rattle.std.specs.List.{AllByRecursion}
use Rattle.std.specs.Option.{IsSomeAnd}
use Rattle.std.proofs.lemmas.Bool.{eq-eqb}
use Rattle.std.proofs.lemmas.List.Elements.{All-from_recursion}
use Rattle.depot_model.specs.Deeds.{Deed}
use Rattle.depot_model.specs.Order.{IsOrder, IsPlaceOf, Rises}
use Rattle.depot_model.specs.declared.order.Place.{Place}
use Rattle.depot_model.specs.declared.request.Request.{Request}
use Rattle.depot_model.specs.declared.request.Session.{Session}
use Rattle.locked_tables.specs.Taken.{of_party, place_of}
use Rattle.locked_tables.specs.declared.taken.Taken.{Taken}
use Rattle.run_parties.proofs.Counts.{count_at, session_at}
use Rattle.run_parties.proofs.Naming.{IsOf, moment_is, named, party_is, placed_is}
use Rattle.run_parties.proofs.Slots.{also_at}
use Rattle.run_parties.specs.Served.{AreApart, AreServed, session_counts}
use Rattle.session_loop.specs.Requests.{AreRequestsOfAll}
use Rattle.session_loop.specs.declared.reading.ReplicaScript.{ReplicaScript}
use Rattle.session_loop.specs.declared.session.SessionRun.{SessionRun}
use Rattle.party_threads.specs.Entries.{AreRising, HasTaken, IsOneOf, Names, at_moment}
use Rattle.party_threads.specs.Parties.{IsAmong}

-- ---- from parties to all

head_of : (P : Taken → Type 0) (party : ℕ) (x : Taken) (xs : List Taken) → x.request.party ≡ party → AllByRecursion P (of_party party (x ∷ xs)) → P x
head_of P party x xs is all = go (eqb x.request.party party) (eq-eqb x.request.party party is) all
  where
    go : (own : Bool) → own ≡ true → AllByRecursion P (cond own (x ∷ of_party party xs) (of_party party xs)) → P x
    go true e all = all.0
    go false e all = absurd cc

tail_of : (P : Taken → Type 0) (party : ℕ) (x : Taken) (xs : List Taken) → AllByRecursion P (of_party party (x ∷ xs)) → AllByRecursion P (of_party party xs)
tail_of P party x xs all = go (eqb x.request.party party) all
  where
    go : (own : Bool) → AllByRecursion P (cond own (x ∷ of_party party xs) (of_party party xs)) → AllByRecursion P (of_party party xs)
    go true all = all.1
    go false all = all

-- what holds of each party's entries holds of all
each_entry : (P : Taken → Type 0) (n : ℕ) (xs : List Taken) → ((i : ℕ) → i < n → AllByRecursion P (of_party (i + 1) xs)) → AllByRecursion (IsAmong n) xs → AllByRecursion P xs
each_entry P n [] each among = tt
each_entry P n (x ∷ xs) each among =
    let low = among.0.0 in
    let high = among.0.1 in
    let is : x.request.party ≡ x.request.party - 1 + 1 = omega (arith, low) in (
      head_of P (x.request.party - 1 + 1) x xs is (each (x.request.party - 1) (omega (arith, low, high))),
      each_entry P n xs (λ i lt. tail_of P (i + 1) x xs (each i lt)) among.1,
    )

-- ---- numbers rise

abbrev AreOrdered : List Taken → Type 0
AreOrdered [] = Unit {0}
AreOrdered (x ∷ xs) = AllByRecursion (λ (y : Taken). Rises (place_of x) (place_of y)) xs × AreOrdered xs

head_rises : (party : ℕ) (x : Taken) (xs : List Taken) → x.request.party ≡ party → AreRising (of_party party (x ∷ xs)) → AllByRecursion (λ (y : Taken). x.request.number < y.request.number) (of_party party xs)
head_rises party x xs is rising = go (eqb x.request.party party) (eq-eqb x.request.party party is) rising
  where
    go : (own : Bool) → own ≡ true → AreRising (cond own (x ∷ of_party party xs) (of_party party xs)) → AllByRecursion (λ (y : Taken). x.request.number < y.request.number) (of_party party xs)
    go true e all = all.0
    go false e all = absurd cc

tail_rises : (party : ℕ) (x : Taken) (xs : List Taken) → AreRising (of_party party (x ∷ xs)) → AreRising (of_party party xs)
tail_rises party x xs rising = go (eqb x.request.party party) rising
  where
    go : (own : Bool) → AreRising (cond own (x ∷ of_party party xs) (of_party party xs)) → AreRising (of_party party xs)
    go true all = all.1
    go false all = all

-- those of one party are above a number
above : (n party : ℕ) (xs : List Taken) → AllByRecursion (λ (y : Taken). n < y.request.number) (of_party party xs) → AllByRecursion (λ (y : Taken). party ≡ y.request.party → n < y.request.number) xs
above n party [] all = tt
above n party (x ∷ xs) all = (λ same. head_of (λ (y : Taken). n < y.request.number) party x xs (sym same) all, above n party xs (tail_of (λ (y : Taken). n < y.request.number) party x xs all))

ordered_all : (n : ℕ) (xs : List Taken) → ((i : ℕ) → i < n → AreRising (of_party (i + 1) xs)) → AllByRecursion (IsAmong n) xs → AreOrdered xs
ordered_all n [] each among = tt
ordered_all n (x ∷ xs) each among =
    let low = among.0.0 in
    let high = among.0.1 in
    let is : x.request.party ≡ x.request.party - 1 + 1 = omega (arith, low) in
    let Above : ℕ → Type 0 = λ party. AllByRecursion (λ (y : Taken). party ≡ y.request.party → x.request.number < y.request.number) xs in (
      subst Above (sym is) (above x.request.number (x.request.party - 1 + 1) xs (head_rises (x.request.party - 1 + 1) x xs is (each (x.request.party - 1) (omega (arith, low, high))))),
      ordered_all n xs (λ i lt. tail_rises (i + 1) x xs (each i lt)) among.1,
    )

-- the same by their places
pairs_of : (xs : List Taken) → AreOrdered xs → AllPairs Rises (map place_of xs)
pairs_of [] ordered = λ i j d lt within. absurd (omega arith)
pairs_of (x ∷ xs) ordered = go (pairs_of xs ordered.1)
  where
    at_place : (ys : List Taken) (k : ℕ) (d : Place) → AllByRecursion (λ (y : Taken). Rises (place_of x) (place_of y)) ys → k < length (map place_of ys) → Rises (place_of x) (slice_index_or (map place_of ys) k d)
    at_place [] k d all within = absurd (omega arith)
    at_place (y ∷ ys) zero d all within = all.0
    at_place (y ∷ ys) (suc k) d all within = at_place ys k d all.1 (omega (arith, within))

    go : AllPairs Rises (map place_of xs) → AllPairs Rises (map place_of (x ∷ xs))
    go later zero zero d lt within = absurd (omega (arith, lt))
    go later zero (suc j) d lt within = at_place xs j d ordered.0 (omega (arith, within))
    go later (suc i) zero d lt within = absurd (omega (arith, lt))
    go later (suc i) (suc j) d lt within = later i j d (omega (arith, lt)) (omega (arith, within))

-- ---- moments

-- a request that was made at another moment is of the same command
moved : (may_give : ℕ → Type 0) (sessions : List (Option Session)) (i n : ℕ) (request now : Request) → IsOf may_give sessions i n request → may_give now.moment → now ≡ at_moment request now.moment → IsOf may_give sessions i n now
moved may_give sessions i n request now of given is = record {
  session = of.session;
  asked = of.asked;
  has = of.has;
  asks = of.asks;
  is = record { moment = now.moment; given = given; is = is ∙ ap (λ (r : Request). at_moment r now.moment) of.is.is };
}

-- ---- all parties

-- each session's commands were taken, as far as its run tells
abbrev pub AllHaveTaken : (ℕ → Type 0) → (ℕ → List Deed → Type 0) → List (Option ReplicaScript) → List (List Request) → List SessionRun → List (Option (List ℕ)) → List (Option (List ℕ)) → List Taken → Type 0
AllHaveTaken may_give begins scripts requests runs before now order =
    (i : ℕ) (own : List Request) (run : SessionRun) (given got : Option (List ℕ)) → slice_get scripts i ≡ Some None → slice_get requests i ≡ Some own → slice_get runs i ≡ Some run → slice_get before i ≡ Some given → slice_get now i ≡ Some got
    → HasTaken may_give begins (i + 1) own run given got order

-- a replica has no entry
abbrev pub NoneHasPlace : List (Option ReplicaScript) → List Taken → Type 0
NoneHasPlace scripts order = (i : ℕ) (script : ReplicaScript) → slice_get scripts i ≡ Some (Some script) → of_party (i + 1) order ≡ []

module _ (may_give : ℕ → Type 0) (begins : ℕ → List Deed → Type 0) (sessions : List (Option Session)) (scripts : List (Option ReplicaScript)) (requests : List (List Request)) (asked : AreRequestsOfAll may_give 1 sessions requests)
    (as_many : length scripts ≡ length sessions) (apart : AreApart sessions scripts) (runs : List SessionRun) (before now : List (Option (List ℕ))) (order : List Taken) (requests_count : length requests ≡ length sessions)
    (runs_count : length runs ≡ length sessions) (before_count : length before ≡ length sessions) (now_count : length now ≡ length sessions) (all : AllHaveTaken may_give begins scripts requests runs before now order) (none : NoneHasPlace scripts order)
    (among : AllByRecursion (IsAmong (length sessions)) order) where
  -- the entries of a party
  record HasOwn (i : ℕ) : Type 0 where
    own : List Request
    run : SessionRun
    at_own : slice_get requests i ≡ Some own
    at_run : slice_get runs i ≡ Some run
    are : AllByRecursion (IsOneOf may_give own run.commands) (of_party (i + 1) order)
    rising : AreRising (of_party (i + 1) order)

  own_as : (i : ℕ) (own : List Request) (run : SessionRun) (given got : Option (List ℕ)) (script : Option ReplicaScript) → slice_get scripts i ≡ Some script → slice_get requests i ≡ Some own → slice_get runs i ≡ Some run
      → slice_get before i ≡ Some given → slice_get now i ≡ Some got → HasOwn i
  own_as i own run given got None at_script at_own at_run at_given at_got =
      let taken = all i own run given got at_script at_own at_run at_given at_got in
      record { own = own; run = run; at_own = at_own; at_run = at_run; are = taken.own; rising = taken.rising }
  own_as i own run given got (Some script) at_script at_own at_run at_given at_got =
      let empty = sym (none i script at_script) in
      record { own = own; run = run; at_own = at_own; at_run = at_run; are = subst (AllByRecursion (IsOneOf may_give own run.commands)) empty tt; rising = subst AreRising empty tt }

  own_at : (i : ℕ) → i < length sessions → HasOwn i
  own_at i lt =
      let own = at_place requests i (omega (arith, lt, requests_count)) in
      let run = at_place runs i (omega (arith, lt, runs_count)) in
      let given = at_place before i (omega (arith, lt, before_count)) in
      let got = at_place now i (omega (arith, lt, now_count)) in
      let script = at_place scripts i (omega (arith, lt, as_many)) in
      own_as i own.0 run.0 given.0 got.0 script.0 script.1 own.1 run.1 given.1 got.1
    where
      at_place : {X : Type 0} (xs : List X) (i : ℕ) → i < length xs → (x : X) × (slice_get xs i ≡ Some x)
      at_place [] i lt = absurd (omega (arith, lt))
      at_place (x ∷ xs) zero lt = (x, refl)
      at_place (x ∷ xs) (suc i) lt = at_place xs i (omega (arith, lt))

  -- ---- what they ask

  module _ (i : ℕ) (a : HasOwn i) (entry : Taken) (one : IsOneOf may_give a.own a.run.commands entry) where
    of : IsOf may_give sessions i (entry.request.number - 1) entry.request
    of = moved may_give sessions i (entry.request.number - 1) one.request entry.request (named may_give sessions requests asked i (entry.request.number - 1) a.own one.request a.at_own one.asks) one.given one.is

    its_name : Names sessions entry
    its_name = placed_is may_give sessions i (entry.request.number - 1) entry.request of entry.fault

    its_place : IsPlaceOf may_give (session_counts scripts runs) (place_of entry)
    its_place =
        let party = party_is may_give sessions i (entry.request.number - 1) entry.request of in
        let at : entry.request.party - 1 ≡ i = omega (arith, party) in
        let no_replica = session_at sessions scripts i of.session as_many apart of.has in
        let Low : Option ℕ → Type 0 = λ count. IsSomeAnd count (λ (n : ℕ). entry.request.number ≤ n) in
        record {
          party = omega (arith, party);
          number = one.first;
          command = subst (λ (k : ℕ). Low (slice_get (session_counts scripts runs) k)) (sym at) (subst Low (sym (count_at scripts runs i a.run no_replica a.at_run)) one.last);
          moment = moment_is may_give sessions i (entry.request.number - 1) entry.request of;
        }

  pub names : AllByRecursion (Names sessions) order
  names = each_entry (Names sessions) (length sessions) order (λ i lt. let a = own_at i lt in each_named i a (of_party (i + 1) order) a.are) among
    where
      each_named : (i : ℕ) (a : HasOwn i) (xs : List Taken) → AllByRecursion (IsOneOf may_give a.own a.run.commands) xs → AllByRecursion (Names sessions) xs
      each_named i a [] own = tt
      each_named i a (x ∷ xs) own = (its_name i a x own.0, each_named i a xs own.1)

  -- ---- the order

  each_placed : (i : ℕ) (a : HasOwn i) (xs : List Taken) → AllByRecursion (IsOneOf may_give a.own a.run.commands) xs → AllByRecursion (λ (x : Taken). IsPlaceOf may_give (session_counts scripts runs) (place_of x)) xs
  each_placed i a [] own = tt
  each_placed i a (x ∷ xs) own = (its_place i a x own.0, each_placed i a xs own.1)

  by_places : (P : Place → Type 0) (xs : List Taken) → AllByRecursion (λ (x : Taken). P (place_of x)) xs → AllByRecursion P (map place_of xs)
  by_places P [] each = tt
  by_places P (x ∷ xs) each = (each.0, by_places P xs each.1)

  order_is : IsOrder may_give (session_counts scripts runs) (map place_of order)
  order_is =
      let Placed : Place → Type 0 = IsPlaceOf may_give (session_counts scripts runs) in
      record {
        places = All-from_recursion Placed (map place_of order) (by_places Placed order
            (each_entry (λ (x : Taken). Placed (place_of x)) (length sessions) order (λ i lt. let a = own_at i lt in each_placed i a (of_party (i + 1) order) a.are) among));
        rising = pairs_of order (ordered_all (length sessions) order (λ i lt. (own_at i lt).rising) among);
      }

  -- the sessions are served
  pub served : (since : ℕ) (start : List Deed) → begins since start → AreServed may_give sessions scripts start runs before now (map place_of order)
  served since start begun = record {
    count = runs_count;
    places = order_is;
    each = λ i run given got at_script at_run at_given at_got.
        let own = also_at scripts requests i None (as_many ∙ sym requests_count) at_script in
        (all i own.0 run given got at_script own.1 at_run at_given at_got).output since start sessions begun names;
  }
