-- One more command of a party on a thread of its own.
use Rattle.std.proofs.Common.{◌≡◌, ◌<◌, ◌≤◌, ◌+◌, ◌-◌, ℕ, Bool, true, false, cond, eqb, List, [], ◌∷◌, ◌++◌, map, Option, Some, refl, sym, ap, subst, ◌∙◌, arith, inl, inr}
use Rattle.std.specs.Prelude.{◌&&◌, slice_get}
use Rattle.std.specs.List.{AllByRecursion}
use Rattle.std.proofs.Math.Bool.{and-false}
use Rattle.std.proofs.lemmas.Bool.{eq-eqb, ne_eqb}
use Rattle.depot_model.specs.Deeds.{Deed}
use Rattle.depot_model.specs.Places.{Placed, taken, told_at}
use Rattle.depot_model.specs.Printed.{printed}
use Rattle.depot_model.specs.Rows.{memory_row}
use Rattle.depot_model.specs.declared.order.Place.{Place}
use Rattle.depot_model.specs.declared.reply.Row.{Row}
use Rattle.depot_model.specs.declared.request.Request.{Request}
use Rattle.depot_model.specs.declared.request.Session.{Session}
use Rattle.depot_runs.specs.Run.{is_place_of, output_of, placed}
use Rattle.depot_model.specs.Commands.{step}
use Rattle.locked_tables.specs.Known.{PartyKnown}
use Rattle.locked_tables.specs.Taken.{of_party, place_of, placed_of}
use Rattle.locked_tables.specs.declared.taken.Taken.{Taken}
use Rattle.run_parties.proofs.Outputs.{output_more}
use Rattle.run_parties.specs.Asking.{fresh}
use Rattle.run_parties.specs.Giving.{Got}
use Rattle.session_loop.proofs.Orders.{IsUnplaced, outputs-other, reply_to-last, reply_to-unplaced}
use Rattle.session_loop.specs.Served.{IsOutput}
use Rattle.session_loop.specs.Taking.{placed_by}
use Rattle.session_loop.specs.declared.session.SessionRun.{SessionRun}
use Rattle.wire_text.proofs.Pieces.{extended-nil}
use mathlib.Core.List.{IsPrefix}
use Rattle.party_threads.proofs.Behind.{none_behind, of_party-append, output_behind, unplaced_behind}
use Rattle.party_threads.specs.Entries.{AreRising, HasTaken, IsAnswered, IsOneOf, IsTold, Names, at_moment}

-- ---- lists

each_is : {X : Type 0} (P Q : X → Type 0) → ((x : X) → P x → Q x) → (xs : List X) → AllByRecursion P xs → AllByRecursion Q xs
each_is P Q more [] all = tt
each_is P Q more (x ∷ xs) all = (more x all.0, each_is P Q more xs all.1)

pub all_push : {X : Type 0} (P : X → Type 0) (xs : List X) (y : X) → AllByRecursion P xs → P y → AllByRecursion P (xs ++ y ∷ [])
all_push P [] y all one = (one, tt)
all_push P (x ∷ xs) y all one = (all.0, all_push P xs y all.1 one)

pub front_of : {X : Type 0} (P : X → Type 0) (xs ys : List X) → AllByRecursion P (xs ++ ys) → AllByRecursion P xs
front_of P [] ys all = tt
front_of P (x ∷ xs) ys all = (all.0, front_of P xs ys all.1)

last_of : {X : Type 0} (P : X → Type 0) (xs : List X) (y : X) → AllByRecursion P (xs ++ y ∷ []) → P y
last_of P [] y all = all.0
last_of P (x ∷ xs) y all = last_of P xs y all.1

-- ---- entries

rising_push : (n : ℕ) (xs : List Taken) (y : Taken) → AreRising xs → AllByRecursion (λ (x : Taken). x.request.number ≤ n) xs → n < y.request.number → AreRising (xs ++ y ∷ [])
rising_push n [] y rising low high = (tt, tt)
rising_push n (x ∷ xs) y rising low high =
    (all_push (λ (later : Taken). x.request.number < later.request.number) xs y rising.0 (let first = low.0 in omega (arith, first, high)), rising_push n xs y rising.1 low.1 high)

of_party-push : (party : ℕ) (xs : List Taken) (y : Taken) → y.request.party ≡ party → of_party party (xs ++ y ∷ []) ≡ of_party party xs ++ y ∷ []
of_party-push party xs y is =
    let own : of_party party (y ∷ []) ≡ y ∷ [] = ap (λ (b : Bool). cond b (y ∷ []) []) (eq-eqb y.request.party party is) in
    of_party-append party xs (y ∷ []) ∙ ap (λ (zs : List Taken). of_party party xs ++ zs) own

-- a command beyond those that were taken has no place
unplaced_next : (party n : ℕ) (xs : List Taken) → AllByRecursion (λ (x : Taken). x.request.number ≤ n) (of_party party xs) → IsUnplaced party (n + 1) (map place_of xs)
unplaced_next party n [] low = tt
unplaced_next party n (x ∷ xs) low = go (eqb x.request.party party) refl low (λ rest. unplaced_next party n xs rest)
  where
    go : (own : Bool) → eqb x.request.party party ≡ own → AllByRecursion (λ (y : Taken). y.request.number ≤ n) (cond own (x ∷ of_party party xs) (of_party party xs))
        → (AllByRecursion (λ (y : Taken). y.request.number ≤ n) (of_party party xs) → IsUnplaced party (n + 1) (map place_of xs)) → IsUnplaced party (n + 1) (map place_of (x ∷ xs))
    go true is all later =
        let first = all.0 in
        let other : eqb x.request.number (n + 1) ≡ false = ne_eqb x.request.number (n + 1) (λ e. absurd (omega (arith, first, e))) in
        (ap (λ (b : Bool). b && eqb x.request.number (n + 1)) is ∙ other, later all.1)
    go false is all later = (ap (λ (b : Bool). b && eqb x.request.number (n + 1)) is, later all)

-- the run of sessions that the entries name
pub names_are : (sessions : List (Option Session)) (xs : List Taken) → AllByRecursion (Names sessions) xs → map (placed sessions) (map place_of xs) ≡ map placed_of xs
names_are sessions [] names = refl
names_are sessions (x ∷ xs) names = λ i. names.0 i ∷ names_are sessions xs names.1 i

-- ---- before the first command

pub taken_none : (may_give : ℕ → Type 0) (begins : ℕ → List Deed → Type 0) (party : ℕ) (requests : List Request) (given : Option (List ℕ)) → HasTaken may_give begins party requests fresh given given []
taken_none may_give begins party requests given = record { own = tt; rising = tt; output = λ since start sessions begun names. sym (extended-nil given) }

-- ---- over more of the order

module _ (may_give : ℕ → Type 0) (begins : ℕ → List Deed → Type 0) (party : ℕ) (requests : List Request) where
  -- what a party was answered is the same over all of an order that its entries begin, if it has no more entries of its own
  pub heard : (run : SessionRun) (before now : Option (List ℕ)) (known order : List Taken) → HasTaken may_give begins party requests run before now known → IsPrefix known order
      → of_party party order ≡ of_party party known → HasTaken may_give begins party requests run before now order
  heard run before now known order h (rest, is) own =
      let none : of_party party rest ≡ [] = none_behind party known rest (ap (of_party party) is ∙ own) in
      let Given : (List (Option Session)) → List Deed → List Taken → Type 0 = λ sessions start entries. IsOutput sessions start (map place_of entries) party run.commands run.failed before now in
      record {
        own = subst (AllByRecursion (IsOneOf may_give requests run.commands)) (sym own) h.own;
        rising = subst AreRising (sym own) h.rising;
        output = λ since start sessions begun names.
            let front = front_of (Names sessions) known rest (subst (AllByRecursion (Names sessions)) (sym is) names) in
            let places : map place_of (known ++ rest) ≡ map place_of known ++ map place_of rest = map_append known rest in
            let Out : List Place → Type 0 = λ order. IsOutput sessions start order party run.commands run.failed before now in
            subst (Given sessions start) is (subst Out (sym places)
            (output_behind sessions start (map place_of known) (map place_of rest) party (λ number. unplaced_behind party number rest none) run.commands run.failed before now (h.output since start sessions begun front)));
      }
    where
      map_append : (xs ys : List Taken) → map place_of (xs ++ ys) ≡ map place_of xs ++ map place_of ys
      map_append [] ys = refl
      map_append (x ∷ xs) ys = ap (λ (ps : List Place). place_of x ∷ ps) (map_append xs ys)

  -- ---- one more command

  module _ (n : ℕ) (request : Request) (at : slice_get requests n ≡ Some request) (party_is : request.party ≡ party) (number_is : request.number ≡ n + 1) (before mid now : Option (List ℕ)) (failed : Bool) where
    abbrev was : SessionRun
    was = record { commands = n; failed = false }

    abbrev now_run : SessionRun
    now_run = record { commands = n + 1; failed = failed }

    low_of : (xs : List Taken) → AllByRecursion (IsOneOf may_give requests n) xs → AllByRecursion (λ (x : Taken). x.request.number ≤ n) xs
    low_of xs own = each_is (IsOneOf may_give requests n) (λ (x : Taken). x.request.number ≤ n) (λ x is. is.last) xs own

    more_of : (xs : List Taken) → AllByRecursion (IsOneOf may_give requests n) xs → AllByRecursion (IsOneOf may_give requests (n + 1)) xs
    more_of xs own = each_is (IsOneOf may_give requests n) (IsOneOf may_give requests (n + 1)) (λ x is. record { first = is.first; last = (let low = is.last in omega (arith, low)); request = is.request; asks = is.asks; given = is.given; is = is.is }) xs own

    -- it found no memory
    untaken : (known : List Taken) (text : List ℕ) → text ≡ printed (memory_row ∷ []) request.number → Got failed text mid now → HasTaken may_give begins party requests was before mid known
        → HasTaken may_give begins party requests now_run before now known
    untaken known text text_is got h = record {
      own = more_of (of_party party known) h.own;
      rising = h.rising;
      output = λ since start sessions begun names.
          let order = map place_of known in
          let none = unplaced_next party n known (low_of (of_party party known) h.own) in
          let told : output_of sessions start order party (n + 1) ≡ text =
          ap (λ (rows : List Row). printed rows (n + 1)) (reply_to-unplaced sessions start order party (n + 1) none) ∙ (ap (printed (memory_row ∷ [])) (sym number_is) ∙ sym text_is) in
          output_more sessions start order order party n text refl told failed before mid now (h.output since start sessions begun names) got;
    }

    -- it has the last place
    placed_last : (known : List Taken) (entry : Taken) (text : List ℕ) (moment : ℕ) → may_give moment → entry.request ≡ at_moment request moment
        → ((since : ℕ) (start : List Deed) → begins since start → text ≡ printed (told_at step (taken step start (map placed_of known)) (placed_of entry)) request.number)
        → Got failed text mid now → HasTaken may_give begins party requests was before mid known → HasTaken may_give begins party requests now_run before now (known ++ entry ∷ [])
    placed_last known entry text moment given asks replies got h =
        let its_moment : entry.request.moment ≡ moment = ap (λ (r : Request). r.moment) asks in
        let its_party : entry.request.party ≡ party = ap (λ (r : Request). r.party) asks ∙ party_is in
        let its_number : entry.request.number ≡ n + 1 = ap (λ (r : Request). r.number) asks ∙ number_is in
        let behind : of_party party (known ++ entry ∷ []) ≡ of_party party known ++ entry ∷ [] = of_party-push party known entry its_party in
        let its_place : entry.request.number - 1 ≡ n = omega (arith, its_number) in
        let low = low_of (of_party party known) h.own in
        record {
          own = subst (AllByRecursion (IsOneOf may_give requests (n + 1))) (sym behind) (all_push (IsOneOf may_give requests (n + 1)) (of_party party known) entry (more_of (of_party party known) h.own)
              (record {
                first = omega (arith, its_number);
                last = omega (arith, its_number);
                request = request;
                asks = ap (slice_get requests) its_place ∙ at;
                given = subst may_give (sym its_moment) given;
                is = asks ∙ ap (at_moment request) (sym its_moment);
              }));
          rising = subst AreRising (sym behind) (rising_push n (of_party party known) entry h.rising low (omega (arith, its_number)));
          output = λ since start sessions begun names.
              let order = map place_of known in
              let place = place_of entry in
              let front = front_of (Names sessions) known (entry ∷ []) names in
              let last = last_of (Names sessions) known entry names in
              let other : (k : ℕ) → k ≤ n → is_place_of party k place ≡ false = λ k le.
              ap (λ (b : Bool). eqb entry.request.party party && b) (ne_eqb entry.request.number k (λ e. absurd (omega (arith, le, its_number, e)))) ∙ and-false (eqb entry.request.party party) in
              let this : is_place_of party (n + 1) place ≡ true =
              ap (λ (b : Bool). b && eqb entry.request.number (n + 1)) (eq-eqb entry.request.party party its_party) ∙ eq-eqb entry.request.number (n + 1) its_number in
              let places : map place_of (known ++ entry ∷ []) ≡ order ++ place ∷ [] = map_push known entry in
              let ran : map (placed sessions) order ≡ map placed_of known = names_are sessions known front in
              let told : output_of sessions start (order ++ place ∷ []) party (n + 1) ≡ text =
              ap (λ (rows : List Row). printed rows (n + 1)) (reply_to-last sessions start order place party (n + 1) (unplaced_next party n known low) this
              ∙ (ap (λ (ps : List Placed). told_at step (taken step start ps) (placed sessions place)) ran ∙ ap (told_at step (taken step start (map placed_of known))) last))
              ∙ (ap (printed (told_at step (taken step start (map placed_of known)) (placed_of entry))) (sym number_is) ∙ sym (replies since start begun)) in
              let Out : List Place → Type 0 = λ os. IsOutput sessions start os party (n + 1) failed before now in
              subst Out (sym places)
              (output_more sessions start order (order ++ place ∷ []) party n text (outputs-other sessions start order place party n other) told failed before mid now (h.output since start sessions begun front) got);
        }
      where
        map_push : (xs : List Taken) (y : Taken) → map place_of (xs ++ y ∷ []) ≡ map place_of xs ++ place_of y ∷ []
        map_push [] y = refl
        map_push (x ∷ xs) y = ap (λ (ps : List Place). place_of x ∷ ps) (map_push xs y)

    -- it is answered
    pub answered : (old new : PartyKnown) → old.party ≡ party → IsAnswered may_give begins old new request mid now failed → HasTaken may_give begins party requests was before mid old.list
        → (new.party ≡ party) × HasTaken may_give begins party requests now_run before now new.list
    answered old new its_party a h = go a.told
      where
        go : IsTold begins old new (at_moment request a.moment) a.text → (new.party ≡ party) × HasTaken may_give begins party requests now_run before now new.list
        go (inl (answer, t, text_is)) =
            let entry_is : placed_by (at_moment request a.moment) answer.place.fault ≡ placed_of t.entry =
            (λ i. record { request = Some (sym t.asks i); fault = ap (λ (p : Place). p.fault) t.place i }) in
            let own : of_party party t.before ≡ of_party party old.list = subst (λ (p : ℕ). of_party p t.before ≡ of_party p old.list) its_party t.own in
            let all = heard was before mid old.list t.before h t.later own in
            let done = placed_last t.before t.entry a.text a.moment a.given t.asks
            (λ since start begun. text_is ∙ ((t.answers since start begun).reply ∙ ap (λ (p : Placed). printed (told_at step (taken step start (map placed_of t.before)) p) request.number) entry_is)) a.got all in
            let Whole : List Taken → Type 0 = λ entries. HasTaken may_give begins party requests now_run before now entries in
            (ap (λ (k : PartyKnown). k.party) t.known ∙ its_party, subst Whole (sym (ap (λ (k : PartyKnown). k.list) t.known)) done)
        go (inr (same, text_is)) =
            let Whole : List Taken → Type 0 = λ entries. HasTaken may_give begins party requests now_run before now entries in
            (ap (λ (k : PartyKnown). k.party) same ∙ its_party, subst Whole (sym (ap (λ (k : PartyKnown). k.list) same)) (untaken old.list a.text text_is a.got h))
