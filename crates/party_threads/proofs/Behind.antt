-- Entries of other parties, behind all that a party knows: they change nothing of what it is answered.
use Rattle.std.proofs.Common.{◌≡◌, ℕ, Bool, true, false, cond, eqb, List, [], ◌∷◌, ◌++◌, length, map, Option, refl, sym, ap, ◌∙◌, arith}
use Rattle.std.proofs.lemmas.List.{length-append, nil_from_length}
use Rattle.depot_model.specs.Deeds.{Deed}
use Rattle.depot_model.specs.Printed.{printed}
use Rattle.depot_model.specs.Step.{after}
use Rattle.depot_model.specs.declared.order.Place.{Place}
use Rattle.depot_model.specs.declared.reply.Row.{Row}
use Rattle.depot_model.specs.declared.request.Session.{Session}
use Rattle.depot_runs.specs.Run.{deeds_at, is_place_of, output_of, reply_to, rows_at}
use Rattle.locked_tables.specs.Taken.{of_party, place_of}
use Rattle.locked_tables.specs.declared.taken.Taken.{Taken}
use Rattle.run_parties.proofs.Outputs.{output_stays}
use Rattle.session_loop.proofs.Orders.{IsUnplaced, reply_to-unplaced}
use Rattle.session_loop.specs.Served.{IsOutput}

-- ---- entries of one party

pub of_party-append : (party : ℕ) (xs ys : List Taken) → of_party party (xs ++ ys) ≡ of_party party xs ++ of_party party ys
of_party-append party [] ys = refl
of_party-append party (x ∷ xs) ys = go (eqb x.request.party party) (of_party-append party xs ys)
  where
    go : (own : Bool) → of_party party (xs ++ ys) ≡ of_party party xs ++ of_party party ys
        → cond own (x ∷ of_party party (xs ++ ys)) (of_party party (xs ++ ys)) ≡ cond own (x ∷ of_party party xs) (of_party party xs) ++ of_party party ys
    go true e = ap (λ (zs : List Taken). x ∷ zs) e
    go false e = e

-- where a party has no more entries, there are none behind
pub none_behind : (party : ℕ) (xs ys : List Taken) → of_party party (xs ++ ys) ≡ of_party party xs → of_party party ys ≡ []
none_behind party xs ys same =
    let split = ap (length {A = Taken}) (sym (of_party-append party xs ys) ∙ same) in
    let sum = length-append (of_party party xs) (of_party party ys) in
    nil_from_length (of_party party ys) (omega (arith, split, sum))

-- so none of their places is one of the party's
pub unplaced_behind : (party number : ℕ) (ys : List Taken) → of_party party ys ≡ [] → IsUnplaced party number (map place_of ys)
unplaced_behind party number [] none = tt
unplaced_behind party number (y ∷ ys) none = go (eqb y.request.party party) refl none (λ rest. unplaced_behind party number ys rest)
  where
    go : (own : Bool) → eqb y.request.party party ≡ own → cond own (y ∷ of_party party ys) (of_party party ys) ≡ [] → (of_party party ys ≡ [] → IsUnplaced party number (map place_of ys))
        → IsUnplaced party number (map place_of (y ∷ ys))
    go true is e later = absurd cc
    go false is e later = (rw is refl, later e)

-- ---- replies

module _ (sessions : List (Option Session)) where
  reply_to-behind : (depot : List Deed) (order more : List Place) (party number : ℕ) → IsUnplaced party number more → reply_to sessions depot (order ++ more) party number ≡ reply_to sessions depot order party number
  reply_to-behind depot [] more party number none = reply_to-unplaced sessions depot more party number none
  reply_to-behind depot (first ∷ order) more party number none =
      ap (cond (is_place_of party number first) (rows_at sessions depot first)) (reply_to-behind (after depot (deeds_at sessions depot first)) order more party number none)

  module _ (start : List Deed) (order more : List Place) (party : ℕ) (none : (number : ℕ) → IsUnplaced party number more) where
    output_of-behind : (number : ℕ) → output_of sessions start (order ++ more) party number ≡ output_of sessions start order party number
    output_of-behind number = ap (λ (rows : List Row). printed rows number) (reply_to-behind start order more party number (none number))

    pub output_behind : (n : ℕ) (failed : Bool) (before now : Option (List ℕ)) → IsOutput sessions start order party n failed before now → IsOutput sessions start (order ++ more) party n failed before now
    output_behind n failed before now is = output_stays sessions start order (order ++ more) party output_of-behind n failed before now is
