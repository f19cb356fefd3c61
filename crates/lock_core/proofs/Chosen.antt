-- The parties that may go on are those that may in the machine or outside of it, and one of them is chosen.
use Rattle.std.proofs.Common.{◌≡◌, ◌<◌, ◌^◌, ℕ, Bool, List, [], ◌∷◌, length, None, refl, ap, ◌∙◌, arith}
use Rattle.std.specs.Prelude.{◌%◌, ◌||◌, filter, slice_get}
use Rattle.std.specs.List.{range_with_len}
use Rattle.std.proofs.Math.Path.{fun_ext}
use Rattle.depot_rows.specs.depot_model.Deeds.{Deed}
use Rattle.lock_machine.specs.Draws.{chosen}
use Rattle.lock_machine.specs.Machine.{State}
use Rattle.lock_core.specs.Core.{Shows, may_wait, wait_at}
use Rattle.lock_core.specs.Drawing.{going_parties, has_other, may_go_below, may_go_on}
use Rattle.lock_core.specs.declared.machine.LockCore.{LockCore}
use Rattle.lock_core.proofs.Counterparts.{enabled_same, same_length}

pub going_are : (start : List Deed) (core : LockCore) (s : State) (others : List ℕ) → Shows start core s → may_go_below core.parties.items others (length core.parties.items) ≡ going_parties s others
going_are start core s others shows =
    let tests : (λ (i : ℕ). may_wait core.parties.items (wait_at core.parties.items i) || has_other others i) ≡ (λ (i : ℕ). may_go_on s others i) =
    fun_ext (λ i. ap (λ (b : Bool). b || has_other others i) (enabled_same start core s i shows)) in
    λ k. filter (tests k) (range_with_len 0 (same_length s.order core.parties.items s.parties shows.parties k))

pub all_going : (start : List Deed) (core : LockCore) (s : State) (others : List ℕ) → Shows start core s → length s.parties < 2 ^ 32 → (end : ℕ)
    → (length core.parties.items < 2 ^ 32 → end ≡ length core.parties.items) → may_go_below core.parties.items others end ≡ going_parties s others
all_going start core s others shows few end end_is =
    let same = same_length s.order core.parties.items s.parties shows.parties in
    ap (may_go_below core.parties.items others) (end_is (let below : length core.parties.items < 2 ^ 32 = omega (arith, same, few) in below)) ∙ going_are start core s others shows

pub none_chosen : (xs : List ℕ) (value : ℕ) → length xs ≡ 0 → chosen xs value ≡ None
none_chosen [] value none = refl
none_chosen (x ∷ xs) value none = absurd cc

pub one_chosen : (xs : List ℕ) (value : ℕ) → (length xs ≡ 0 → ⊥) → chosen xs value ≡ slice_get xs (value % length xs)
one_chosen [] value some = absurd (some refl)
one_chosen (x ∷ xs) value some = refl
