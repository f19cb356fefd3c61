-- One place more.
use Rattle.std.proofs.Common.{◌≡◌, ◌⊎◌, ℕ, ◌≤◌, List, [], ◌∷◌, ◌++◌, length, refl, sym, subst, ◌∙◌, arith}
use Rattle.std.proofs.lemmas.List.{take-append-le, take_all}
use Rattle.depot_rows.specs.table_changes.Changed.{AllRows}
use Rattle.depot_rows.specs.depot_model.Commands.{step}
use Rattle.depot_rows.specs.depot_model.Deeds.{Deed}
use Rattle.depot_runs.specs.Kept.{IsChange, NoChange, IsKept, KeptInDoubt}
use Rattle.depot_rows.specs.depot_model.Places.{Placed, done_at, taken}
use Rattle.depot_rows.specs.depot_model.Records.{RowsDiffer, SameRows}
use Rattle.depot_rows.specs.depot_model.Step.{after}
use Rattle.depot_rows.specs.db_records.Key.{key_table}
use Rattle.depot_rows.specs.Standing.{Stand}

pub taken-push : (d : List Deed) (places : List Placed) (p : Placed) → taken step d (places ++ p ∷ []) ≡ after (taken step d places) (done_at step (taken step d places) p)
taken-push d [] p = refl
taken-push d (first ∷ places) p = taken-push (after d (done_at step d first)) places p

pub taken-append : (d : List Deed) (first second : List Placed) → taken step d (first ++ second) ≡ taken step (taken step d first) second
taken-append d [] second = refl
taken-append d (p ∷ first) second = taken-append (after d (done_at step d p)) first second

pub quiet_more : (d : List Deed) (places : List Placed) (p : Placed) → NoChange d places → (IsChange (taken step d places) p → ⊥) → NoChange d (places ++ p ∷ [])
quiet_more d [] p quiet idle = (idle, tt)
quiet_more d (first ∷ places) p quiet idle = (quiet.0, quiet_more (after d (done_at step d first)) places p quiet.1 idle)

-- two depots for which the same rows stand
pub same_stand : (rows : AllRows) (d e : List Deed) → Stand rows d → Stand rows e → SameRows d e
same_stand rows d e one other = λ key. sym (one.each (key_table key) key refl) ∙ other.each (key_table key) key refl

pub no_difference : (d e : List Deed) → SameRows d e → RowsDiffer d e → ⊥
no_difference d e alike differ = differ.1 (alike differ.0)

-- the first places are the same
pub kept_more : (Stands : List Deed → Type 0) (d : List Deed) (places : List Placed) (p : Placed) (k : ℕ) → k ≤ length places → IsKept Stands d places k → IsKept Stands d (places ++ p ∷ []) k
kept_more Stands d places p k le kept =
    let P : List Placed → Type 0 = λ ps. Stands (taken step d ps) ⊎ KeptInDoubt Stands d ps in
    subst P (sym (take-append-le k places (p ∷ []) le)) kept

pub kept_whole : (Stands : List Deed → Type 0) (d : List Deed) (places : List Placed) → Stands (taken step d places) ⊎ KeptInDoubt Stands d places → IsKept Stands d places (length places)
kept_whole Stands d places kept =
    let P : List Placed → Type 0 = λ ps. Stands (taken step d ps) ⊎ KeptInDoubt Stands d ps in
    subst P (sym (take_all (length places) places (omega arith))) kept
