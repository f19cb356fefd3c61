-- The first change with which changes are no longer good, and its place.
use Rattle.std.proofs.Common.{◌≡◌, ℕ, zero, suc, ◌+◌, ◌-◌, ◌<◌, ◌≤◌, List, [], ◌∷◌, ◌++◌, length, take, drop, get_or, Err, refl, sym, ap, subst, ◌∙◌, arith, length-append}
use Rattle.std.proofs.lemmas.List.{take_more, take-append-drop, get_or-drop}
use Rattle.depot_rows.specs.db_records.declared.change.Change.{Change}
use Rattle.journal_groups.specs.Groups.{body_of}
use Rattle.journal_groups.proofs.Texts.{body_joined}
use Rattle.recovery.specs.Faults.{IfDamaged, Tells}
use Rattle.recovery.specs.Pieces.{IsFirstBad, IsBadPlace}
use Rattle.recovery.specs.declared.fault.OpenFault.{OpenFault}
use Rattle.recovery.specs.declared.fault.OpenFault.TheVariants.{Unmade, Damaged, DiskFault, Memory}
use Rattle.recovery.specs.declared.pieces.FileGroups.{FileGroups}

first_of : (changes : List Change) (n : ℕ) → n < length changes → (bad : Change) × ((after : List Change) × (drop n changes ≡ bad ∷ after))
first_of [] n within = absurd (omega (arith, within))
first_of (change ∷ changes) zero within = (change, (changes, refl))
first_of (change ∷ changes) (suc n) within = first_of changes n (omega (arith, within))

-- of which so many are good, and one more aren't
pub first_bad : (good : List Change → Type 0) (changes : List Change) (n : ℕ) → n < length changes → good (take n changes) → (good (take (n + 1) changes) → ⊥) → IsFirstBad good changes (length (body_of (drop n changes)))
first_bad good changes n within are none =
    let first = first_of changes n within in
    let bad = first.0 in
    let same : n ≡ n + 0 = omega arith in
    let at : get_or changes n bad ≡ bad = ap (λ (k : ℕ). get_or changes k bad) same ∙ sym (get_or-drop n changes 0 bad) ∙ ap (λ (l : List Change). get_or l 0 bad) first.1.1 in
    record {
      front = take n changes;
      bad = bad;
      after = first.1.0;
      parts = sym (take-append-drop n changes) ∙ ap (λ (l : List Change). take n changes ++ l) first.1.1;
      good_front = are;
      none = λ more. none (subst good (sym (take_more changes n bad within ∙ ap (λ (c : Change). take n changes ++ c ∷ []) at)) more);
      left_is = ap (λ (l : List Change). length (body_of l)) first.1.1;
    }

pub if_told : (X : Type 0) (fault : OpenFault) (place : ℕ) (P : ℕ → Type 0) → Tells (λ _ _ found. found ≡ place) fault → P place → IfDamaged {X = X} (Err fault) P
if_told X Unmade place P is holds = tt
if_told X (Damaged disk file found) place P is holds = subst P (sym is) holds
if_told X DiskFault place P is holds = tt
if_told X Memory place P is holds = tt

-- the place that is told is that of the first bad change
pub told_bad : (X : Type 0) (good : List Change → Type 0) (groups : FileGroups) (changes others : List Change) (n : ℕ) (fault : OpenFault) → others ≡ drop n changes → n < length changes → good (take n changes) → (good (take (n + 1) changes) → ⊥)
    → Tells (λ _ _ place. place ≡ (groups.reader.reached - length (body_of others)) - groups.front) fault → IfDamaged {X = X} (Err fault) (IsBadPlace good groups changes)
told_bad X good groups changes others n fault is within are none told =
    if_told X fault ((groups.reader.reached - length (body_of others)) - groups.front) (IsBadPlace good groups changes) told (length (body_of others), (refl, subst (λ (l : List Change). IsFirstBad good changes (length (body_of l))) (sym is) (first_bad good changes n within are none)))

-- its text and that of the changes behind it are within that of all
pub bad_within : (good : List Change → Type 0) (changes : List Change) (left : ℕ) → IsFirstBad good changes left → left ≤ length (body_of changes)
bad_within good changes left bad =
    omega (arith, bad.left_is, ap (λ (l : List Change). length (body_of l)) bad.parts, ap length (body_joined bad.front (bad.bad ∷ bad.after)), length-append (body_of bad.front) (body_of (bad.bad ∷ bad.after)))
