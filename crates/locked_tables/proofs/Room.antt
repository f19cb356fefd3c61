-- How many places parties have and may have, and that there is room for all of them.
use Rattle.std.proofs.Common.{◌≡◌, ◌≢◌, ◌≤◌, ◌<◌, ◌==◌, ◌+◌, ◌-◌, ◌++◌, ℕ, zero, suc, Bool, true, false, List, [], ◌∷◌, length, map, if◌then◌else◌, refl, sym, ap, ◌∙◌, subst, arith}
use mathlib.Core.Logic.{dite}
use native.Mathlib.Decide.{ℕ_discrete}
use borrow.Author.Tests.{eqb-true}
use Rattle.std.specs.List.{AllByRecursion}
use Rattle.std.proofs.lemmas.Bool.{eq-eqb, ne_eqb}
use Rattle.std.proofs.lemmas.List.{length-append, length-map}
use Rattle.depot_model.specs.declared.order.Place.{Place}
use Rattle.order_words.specs.Seats.{Run}
use Rattle.locked_tables.specs.Known.{HasPlaceLeft, PartyKnown, all_places}
use Rattle.locked_tables.specs.Taken.{IsOwn, IsParty, TouchesItsParty, of_party, place_of}
use Rattle.locked_tables.specs.declared.taken.Taken.{Taken}
use Rattle.locked_tables.proofs.Parties.{party_append}

-- ---- sums

module _ (fewer more : ℕ → ℕ) (all : (party : ℕ) → fewer party ≤ more party) where
  all_within : (n : ℕ) → all_places fewer n ≤ all_places more n
  all_within zero = omega arith
  all_within (suc n) = let rest = all_within n in let last = all (suc n) in omega arith

  -- one of which is less
  all_below : (party n : ℕ) → 1 ≤ party → party ≤ n → fewer party < more party → all_places fewer n < all_places more n
  all_below party zero low high less = absurd (omega arith)
  all_below party (suc n) low high less = dite (ℕ_discrete party (suc n))
      (λ e. let rest = all_within n in let last : fewer (suc n) < more (suc n) = subst (λ (p : ℕ). fewer p < more p) e less in omega arith)
      (λ ne. let rest = all_below party n low (omega arith) less in let last = all (suc n) in omega arith)

none_placed : (n : ℕ) → all_places (λ (party : ℕ). 0) n ≡ 0
none_placed zero = refl
none_placed (suc n) = let rest = none_placed n in omega arith

-- ---- how many places each party has in a list

abbrev pub count_of : List Taken → ℕ → ℕ
count_of list party = length (of_party party list)

module _ (taken : Taken) (list : List Taken) where
  with_own : (party : ℕ) → taken.request.party ≡ party → count_of (taken ∷ list) party ≡ suc (count_of list party)
  with_own party is = ap (λ (b : Bool). length (if b then taken ∷ of_party party list else of_party party list)) (eq-eqb taken.request.party party is)

  with_other : (party : ℕ) → taken.request.party ≢ party → count_of (taken ∷ list) party ≡ count_of list party
  with_other party isnt = ap (λ (b : Bool). length (if b then taken ∷ of_party party list else of_party party list)) (ne_eqb taken.request.party party isnt)

  counts_below : (n : ℕ) → n < taken.request.party → all_places (count_of (taken ∷ list)) n ≡ all_places (count_of list) n
  counts_below zero past = refl
  counts_below (suc n) past = let rest = counts_below n (omega arith) in let last = with_other (suc n) (λ e. absurd (omega arith)) in omega arith

  counts_one : (n : ℕ) → 1 ≤ taken.request.party → taken.request.party ≤ n → all_places (count_of (taken ∷ list)) n ≡ suc (all_places (count_of list) n)
  counts_one zero low high = absurd (omega arith)
  counts_one (suc n) low high = dite (ℕ_discrete taken.request.party (suc n))
      (λ e. let rest = counts_below n (omega arith) in let last = with_own (suc n) e in omega arith)
      (λ ne. let rest = counts_one n low (omega arith) in let last = with_other (suc n) ne in omega arith)

module _ (run : Run) where
  -- each entry is of one party of the run
  length_counted : (list : List Taken) → AllByRecursion (TouchesItsParty run) list → length list ≡ all_places (count_of list) 16
  length_counted [] all = sym (none_placed 16)
  length_counted (taken ∷ list) all = let rest = length_counted list all.1 in let one = counts_one taken list 16 all.0.party.low all.0.party.high in omega arith

  module _ (places : ℕ → ℕ) (list : List Taken) (all : AllByRecursion (TouchesItsParty run) list) (within : (party : ℕ) → count_of list party ≤ places party) where
    -- fewer than there may be, where a party has one left
    below_all : (party : ℕ) → IsParty run party → count_of list party < places party → length list < all_places places 16
    below_all party is less = let long = length_counted list all in let most = all_below (count_of list) places within party 16 is.low is.high less in omega arith

    -- and room for it behind the places of the list
    pub has_room : (party : ℕ) → IsParty run party → count_of list party < places party → (items : List Place) (capacity : ℕ) → items ≡ map place_of list → all_places places 16 ≤ capacity → length items < capacity
    has_room party is less items capacity are fits = let below = below_all party is less in let many : length items ≡ length list = ap length are ∙ length-map list place_of in omega arith

-- ---- one more place

module _ (places : ℕ → ℕ) (known : PartyKnown) (before after : List Taken) (own : IsOwn known.party known.list before after) where
  -- a party that may have one more place may have it behind the order
  pub left_behind : HasPlaceLeft places known → count_of before known.party < places known.party
  left_behind left = subst (λ (l : List Taken). length l < places known.party) (sym own.earlier) left

  -- then it has just one more
  pub counts_own : count_of after known.party ≡ count_of known.list known.party + 1
  counts_own = let more = length-append (of_party known.party known.list) (own.taken ∷ []) in let is = ap length own.own in omega arith

-- and so it may have one less
pub left_after : (places : ℕ → ℕ) (left : ℕ) {party : ℕ} {known before after list : List Taken} → IsOwn party known before after → list ≡ after → count_of known party + left ≡ places party → count_of known party < places party
    → count_of list party + (left - 1) ≡ places party
left_after places left {party} {known} {before} {after} {list} own is was less =
    let more = counts_own places (record { party = party; list = known }) before after own in
    let now : count_of list party ≡ count_of after party = ap (λ (l : List Taken). count_of l party) is in
    omega arith

module _ (places : ℕ → ℕ) (before : List Taken) (entry : Taken) (within : (party : ℕ) → count_of before party ≤ places party) (left : count_of before entry.request.party < places entry.request.party) where
  with_one : (party : ℕ) (b : Bool) → (entry.request.party == party) ≡ b → length (of_party party before ++ (if b then entry ∷ [] else [])) ≤ places party
  with_one party true e =
      let more = length-append (of_party party before) (entry ∷ []) in
      let less : count_of before party < places party = subst (λ (p : ℕ). count_of before p < places p) (eqb-true entry.request.party party e) left in
      omega arith
  with_one party false e = let same = length-append (of_party party before) [] in let less = within party in omega arith

  -- no party has more places than it may have
  pub within_kept : (party : ℕ) → count_of (before ++ entry ∷ []) party ≤ places party
  within_kept party = subst (λ (l : List Taken). length l ≤ places party) (sym (party_append party before (entry ∷ []))) (with_one party (entry.request.party == party) refl)
