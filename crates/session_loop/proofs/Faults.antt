-- Fault places and the count of faults.
use Rattle.std.proofs.Common.{◌≡◌, ◌⊎◌, ℕ, ◌+◌, ◌-◌, ◌≤◌, min, Bool, true, false, cond, List, [], ◌∷◌, ◌++◌, inl, inr, refl, sym, ap, ◌∙◌, arith, add-zero}
use Rattle.std.proofs.lemmas.List.Sums.{sum_by_push}
use Rattle.outside_api.specs.Count.{counted, HasRisen}
use Rattle.depot_model.specs.declared.order.Place.{Place}
use Rattle.session_loop.specs.Served.{AreCaused, HaveRisenBy, StandWithoutFaults, fault_count}

-- a count that rose by some, and then by more
pub counted_more : (k n before mid now : ℕ) → counted k before ≤ mid → counted n mid ≤ now → counted (k + n) before ≤ now
counted_more k n before mid now first second = omega (arith, first, second)

-- ---- how far the two counts rose together

-- by none where neither fell
pub risen_by_none : (before now contents_before contents_now : ℕ) → before ≤ now → contents_before ≤ contents_now → HaveRisenBy 0 before now contents_before contents_now
risen_by_none before now contents_before contents_now le contents_le = (0, 0, refl, omega (arith, le), omega (arith, contents_le))

-- by one only where one of them rose
pub risen_by_one : (one : Bool) (before now contents_before contents_now : ℕ) → before ≤ now → contents_before ≤ contents_now
    → (one ≡ true → HasRisen before now ⊎ HasRisen contents_before contents_now) → HaveRisenBy (cond one 1 0) before now contents_before contents_now
risen_by_one false before now contents_before contents_now le contents_le risen = risen_by_none before now contents_before contents_now le contents_le
risen_by_one true before now contents_before contents_now le contents_le risen = elim (risen refl) [
  | inl commits ↦ (1, 0, refl, commits, omega (arith, contents_le))
  | inr contents ↦ (0, 1, refl, omega (arith, le), contents)
]

-- by some, and then by more
pub risen_by_more : (some more all before mid now contents_before contents_mid contents_now : ℕ) → all ≡ some + more → HaveRisenBy some before mid contents_before contents_mid
    → HaveRisenBy more mid now contents_mid contents_now → HaveRisenBy all before now contents_before contents_now
risen_by_more some more all before mid now contents_before contents_mid contents_now both (k, l, is, risen, contents_risen) (n, m, then, risen_more, contents_more) = (
  k + n,
  l + m,
  omega (arith, both, is, then),
  counted_more k n before mid now risen risen_more,
  counted_more l m contents_before contents_mid contents_now contents_risen contents_more,
)

-- by at least that many, and so by fewer
pub risen_by_fewer : (fewer failures before now contents_before contents_now : ℕ) → fewer ≤ failures → HaveRisenBy failures before now contents_before contents_now → HaveRisenBy fewer before now contents_before contents_now
risen_by_fewer fewer failures before now contents_before contents_now le (n, m, is, risen, contents_risen) = (
  min fewer n,
  fewer - min fewer n,
  omega arith,
  omega (arith, risen),
  omega (arith, le, is, contents_risen),
)

-- ---- fault places

pub caused_none : (before contents : ℕ) → AreCaused before before contents contents [] []
caused_none before contents = (0, refl, risen_by_none before before contents contents (omega arith) (omega arith))

pub caused_more : (before mid now contents_before contents_mid contents_now : ℕ) (first second third : List Place) → AreCaused before mid contents_before contents_mid first second
    → AreCaused mid now contents_mid contents_now second third → AreCaused before now contents_before contents_now first third
caused_more before mid now contents_before contents_mid contents_now first second third (k, some, risen) (l, more, then) =
    (k + l, omega (arith, some, more), risen_by_more k l (k + l) before mid now contents_before contents_mid contents_now refl risen then)

-- no place came
pub caused_same : (before now contents_before contents_now : ℕ) (old_order new_order : List Place) → new_order ≡ old_order → before ≤ now → contents_before ≤ contents_now
    → AreCaused before now contents_before contents_now old_order new_order
caused_same before now contents_before contents_now old_order new_order same le contents_le =
    (0, ap fault_count same ∙ sym (add-zero (fault_count old_order)), risen_by_none before now contents_before contents_now le contents_le)

-- one place came, a fault only where a count rose
pub caused_once : (before now contents_before contents_now : ℕ) (order : List Place) (place : Place) (fault : Bool) → place.fault ≡ fault → before ≤ now → contents_before ≤ contents_now
    → (fault ≡ true → HasRisen before now ⊎ HasRisen contents_before contents_now) → AreCaused before now contents_before contents_now order (order ++ place ∷ [])
caused_once before now contents_before contents_now order place fault is le contents_le risen = (
  cond fault 1 0,
  sum_by_push (λ (p : Place). cond p.fault 1 0) order place ∙ ap (λ (b : Bool). fault_count order + cond b 1 0) is,
  risen_by_one fault before now contents_before contents_now le contents_le risen,
)

-- ---- counts that stand

-- no place came, and nothing was called
pub stand_same : (before contents : ℕ) (old_order new_order : List Place) → StandWithoutFaults before before contents contents old_order new_order
stand_same before contents old_order new_order same = (refl, refl)

-- some calls, and then some
pub stand_more : (before mid now contents_before contents_mid contents_now : ℕ) (first second third : List Place) → AreCaused before mid contents_before contents_mid first second
    → AreCaused mid now contents_mid contents_now second third → StandWithoutFaults before mid contents_before contents_mid first second
    → StandWithoutFaults mid now contents_mid contents_now second third → StandWithoutFaults before now contents_before contents_now first third
stand_more before mid now contents_before contents_mid contents_now first second third (k, some, risen) (l, more, then) one other same =
    let here = one (omega (arith, some, more, same)) in
    let later = other (omega (arith, some, more, same)) in
    (later.0 ∙ here.0, later.1 ∙ here.1)

-- one place came, and where it isn't that of a fault nothing that was called failed
pub stand_once : (before now contents_before contents_now : ℕ) (order : List Place) (place : Place) (fault : Bool) → place.fault ≡ fault → (fault ≡ false → (now ≡ before) × (contents_now ≡ contents_before))
    → StandWithoutFaults before now contents_before contents_now order (order ++ place ∷ [])
stand_once before now contents_before contents_now order place false is stand same = stand refl
stand_once before now contents_before contents_now order place true is stand same =
    let one : fault_count (order ++ place ∷ []) ≡ fault_count order + 1 = sum_by_push (λ (p : Place). cond p.fault 1 0) order place ∙ ap (λ (b : Bool). fault_count order + cond b 1 0) is in
    absurd (omega (arith, one, same))
