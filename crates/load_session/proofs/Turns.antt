-- As many rising numbers as there are are all of them.
use Rattle.std.proofs.Common.{◌≡◌, ◌≤◌, ◌<◌, ◌+◌, ◌-◌, ℕ, suc, List, [], ◌∷◌, length, map, get_or, refl, sym, ap, ◌∙◌, arith}
use Rattle.std.proofs.lemmas.List.{length-map}
use Rattle.std.specs.Prelude.{All, AllPairs}
use Rattle.depot_model.specs.declared.order.Place.{Place}
use Rattle.depot_model.specs.Order.{Rises}
use Rattle.session_loop.specs.Served.{IsTurn}
use Rattle.load_session.specs.Loading.{numbers_from}

-- the numbers rise from above one number up to another
abbrev RiseWithin : ℕ → ℕ → List ℕ → Type 0
RiseWithin low high [] = low ≤ high
RiseWithin low high (n ∷ numbers) = (low < n) × RiseWithin n high numbers

few : (low high : ℕ) (numbers : List ℕ) → RiseWithin low high numbers → low + length numbers ≤ high
few low high [] rise = omega arith
few low high (n ∷ numbers) rise = let rest = few n high numbers rise.1 in omega (arith, rise.0, rest)

all_of : (low high : ℕ) (numbers : List ℕ) → RiseWithin low high numbers → low + length numbers ≡ high → numbers ≡ numbers_from (low + 1) (length numbers)
all_of low high [] rise e = refl
all_of low high (n ∷ numbers) rise e =
    let rest = few n high numbers rise.1 in
    let one : n ≡ low + 1 = omega (arith, rise.0, rest) in
    let more : n + length numbers ≡ high = omega (arith, rise.0, rest) in
    ap (λ m. m ∷ numbers) one ∙ ap (λ (ns : List ℕ). (low + 1) ∷ ns) (all_of n high numbers rise.1 more ∙ ap (λ m. numbers_from (m + 1) (length numbers)) one)

abbrev number_of : Place → ℕ
number_of place = place.number

-- the places of one party's commands rise so
rises : (may_give : ℕ → Type 0) (n low : ℕ) (order : List Place) → low ≤ n → All (IsTurn may_give 1 n) order → AllPairs Rises order → ((k : ℕ) (d : Place) → k < length order → low < (get_or order k d).number)
    → RiseWithin low n (map number_of order)
rises may_give n low [] le turns rising above = le
rises may_give n low (place ∷ order) le turns rising above =
    let here : IsTurn may_give 1 n place = turns 0 place (omega arith) in (
      above 0 place (omega arith),
      rises may_give n place.number order here.last
          (λ k d lt. turns (suc k) d (omega arith))
          (λ i j d lt within. rising (suc i) (suc j) d (omega arith) (omega arith))
          (λ k d lt.
          let there : IsTurn may_give 1 n (get_or order k d) = turns (suc k) d (omega arith) in
          rising 0 (suc k) d (omega arith) (omega arith) (here.party_is ∙ sym there.party_is)),
    )

pub each_has_its_own : (may_give : ℕ → Type 0) (n : ℕ) (order : List Place) → All (IsTurn may_give 1 n) order → AllPairs Rises order → length order ≡ n → map (λ (place : Place). place.number) order ≡ numbers_from 1 n
each_has_its_own may_give n order turns rising many =
    let rise = rises may_give n 0 order (omega arith) turns rising (λ k d lt. (turns k d lt).first) in
    let same : length (map number_of order) ≡ length order = length-map order number_of in
    all_of 0 n (map number_of order) rise (omega (arith, same)) ∙ ap (λ m. numbers_from 1 m) (same ∙ many)
