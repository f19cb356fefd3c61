-- Fault places and the counts of the two disks.
use Rattle.std.proofs.Common.{◌≡◌, ◌≤◌, ◌+◌, ℕ, zero, suc, Bool, true, false, List, [], ◌∷◌, cond, refl, sym, ap, subst, ◌∙◌, ◌⊎◌, inl, inr, arith}
use Rattle.std.proofs.lemmas.List.Sums.{sum_by-cons}
use Rattle.outside_api.specs.Count.{HasRisen}
use Rattle.depot_rows.specs.depot_model.declared.order.Place.{Place}
use Rattle.session_loop.specs.Served.{AreCaused, HaveRisenBy, StandWithoutFaults, fault_count}
use Rattle.p4_server.specs.Ends.{has_fault_place}

fault_counted_here : (place : Place) (order : List Place) (b : Bool) → place.fault ≡ b → (has_fault_place order ≡ true → 1 ≤ fault_count order) → has_fault_place (place ∷ order) ≡ true → 1 ≤ fault_count (place ∷ order)
fault_counted_here place order true is more e =
    let P : ℕ → Type 0 = λ n. 1 ≤ n in
    let one : 1 ≤ 1 + fault_count order = omega arith in
    subst P (sym (sum_by-cons (λ (p : Place). cond p.fault 1 0) place order ∙ ap (λ (b : Bool). cond b 1 0 + fault_count order) is)) one
fault_counted_here place order false is more e = rw is (more (rw is at e))

fault_counted : (order : List Place) → has_fault_place order ≡ true → 1 ≤ fault_count order
fault_counted [] e = absurd cc
fault_counted (place ∷ order) e = fault_counted_here place order place.fault refl (fault_counted order) e

-- a fault place comes only where a count rose
pub place_rose : (order : List Place) (before now contents_before contents_now : ℕ) → AreCaused before now contents_before contents_now [] order → has_fault_place order ≡ true → HasRisen before now ⊎ HasRisen contents_before contents_now
place_rose order before now contents_before contents_now (k, count, (zero, m, sum, risen, contents_risen)) e =
    let some = fault_counted order e in inr (omega (arith, some, count, sum, contents_risen))
place_rose order before now contents_before contents_now (k, count, (suc n, m, sum, risen, contents_risen)) e = inl (omega (arith, risen))

-- a count that rose since has risen
pub rose_since : (before opened now contents_before contents_opened contents_now : ℕ) → before ≤ opened → contents_before ≤ contents_opened
    → HasRisen opened now ⊎ HasRisen contents_opened contents_now → HasRisen before now ⊎ HasRisen contents_before contents_now
rose_since before opened now contents_before contents_opened contents_now le contents_le (inl risen) = inl (omega (arith, le, risen))
rose_since before opened now contents_before contents_opened contents_now le contents_le (inr risen) = inr (omega (arith, contents_le, risen))

-- failures that came since the counts had risen already
pub risen_since : (failures before opened now contents_before contents_opened contents_now : ℕ) → before ≤ opened → contents_before ≤ contents_opened
    → HaveRisenBy failures opened now contents_opened contents_now → HaveRisenBy failures before now contents_before contents_now
risen_since failures before opened now contents_before contents_opened contents_now le contents_le (n, m, sum, risen, contents_risen) =
    (n, m, sum, omega (arith, le, risen), omega (arith, contents_le, contents_risen))

-- fault places that came since then
pub caused_since : (before opened now contents_before contents_opened contents_now : ℕ) (order : List Place) → before ≤ opened → contents_before ≤ contents_opened
    → AreCaused opened now contents_opened contents_now [] order → AreCaused before now contents_before contents_now [] order
caused_since before opened now contents_before contents_opened contents_now order le contents_le (k, count, risen) =
    (k, count, risen_since k before opened now contents_before contents_opened contents_now le contents_le risen)

-- ---- counts that stand

none_counted_here : (place : Place) (order : List Place) (b : Bool) → place.fault ≡ b → (has_fault_place order ≡ false → fault_count order ≡ 0) → has_fault_place (place ∷ order) ≡ false → fault_count (place ∷ order) ≡ 0
none_counted_here place order true is rest e = let clash : true ≡ false = rw is at e in absurd cc
none_counted_here place order false is rest e = rw is (rest (rw is at e))

none_counted : (order : List Place) → has_fault_place order ≡ false → fault_count order ≡ 0
none_counted [] e = refl
none_counted (place ∷ order) e = none_counted_here place order place.fault refl (none_counted order) e

-- where no place is a fault, the disks that are left have the counts from which they began
pub stand_left : {D : Type 0} (faults : D → ℕ) {before contents_before opened contents_opened : ℕ} {journal archive left left_archive : D} {order told : List Place} → left ≡ journal → left_archive ≡ archive → told ≡ order
    → (opened ≡ before) × (contents_opened ≡ contents_before) → StandWithoutFaults opened (faults journal) contents_opened (faults archive) [] order → has_fault_place told ≡ false
    → (faults left ≡ before) × (faults left_archive ≡ contents_before)
stand_left faults {order = order} journal_is archive_is order_is first stand none =
    let stood = stand (none_counted order (ap has_fault_place (sym order_is) ∙ none)) in
    (ap faults journal_is ∙ (stood.0 ∙ first.0), ap faults archive_is ∙ (stood.1 ∙ first.1))
