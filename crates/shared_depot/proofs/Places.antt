-- How many places parties may have.
use Rattle.std.proofs.Common.{◌≡◌, ◌≤◌, ◌<◌, ◌+◌, ◌-◌, ℕ, zero, suc, Bor, List, [], ◌∷◌, length, Option, Some, None, slice_index_or, unwrap_or, refl, sym, ap, ◌∙◌, arith}
use Rattle.std.specs.Prelude.{IfSome, is_some, nat_lt, option_copied}
use Rattle.std.proofs.lemmas.Bool.{ltb-false, ltb-true}
use Rattle.locked_tables.specs.Known.{all_places}
use Rattle.shared_depot.specs.Sharing.{places_in}

-- the first of the numbers is that of party 1
place_among : (numbers : List ℕ) (i d : ℕ) → i < length numbers → slice_index_or numbers i d ≡ places_in numbers (suc i)
place_among [] i d less = absurd (let no : ⊥ = omega (arith, less) in no)
place_among (n ∷ numbers) zero d less = refl
place_among (n ∷ numbers) (suc i) d less = place_among numbers i d (omega (arith, less))

place_behind : (numbers : List ℕ) (i : ℕ) → length numbers ≤ i → 0 ≡ places_in numbers (suc i)
place_behind [] i far = refl
place_behind (n ∷ numbers) zero far = absurd (let no : ⊥ = omega (arith, far) in no)
place_behind (n ∷ numbers) (suc i) far = place_behind numbers i (omega (arith, far))

place_found : (numbers : List ℕ) (i : ℕ) (found : Option (Bor ℕ)) → is_some found ≡ nat_lt i (length numbers) → IfSome found (λ count. count.now ≡ slice_index_or numbers i count.now)
    → unwrap_or (option_copied found) 0 ≡ places_in numbers (suc i)
place_found numbers i (Some count) some is = is ∙ place_among numbers i count.now (ltb-true i (length numbers) (sym some))
place_found numbers i None some is = place_behind numbers i (ltb-false i (length numbers) (sym some))

-- those of a party are found there, if there are any
pub place_at : (numbers : List ℕ) (party : ℕ) → 1 ≤ party → (found : Option (Bor ℕ)) → is_some found ≡ nat_lt (party - 1) (length numbers) → IfSome found (λ count. count.now ≡ slice_index_or numbers (party - 1) count.now)
    → unwrap_or (option_copied found) 0 ≡ places_in numbers party
place_at numbers party low found some is = place_found numbers (party - 1) found some is ∙ ap (places_in numbers) (let next : suc (party - 1) ≡ party = omega (arith, low) in next)

-- those of one party more
pub all_with : (places : ℕ → ℕ) (count : ℕ) → 1 ≤ count → all_places places count ≡ all_places places (count - 1) + places count
all_with places count some =
    let next : count ≡ suc (count - 1) = omega (arith, some) in
    ap (all_places places) next ∙ ap (λ (n : ℕ). all_places places (count - 1) + places n) (sym next)
