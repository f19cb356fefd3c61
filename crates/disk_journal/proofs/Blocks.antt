-- Open marks with their groups.
use Rattle.std.proofs.Common.{◌≡◌, ℕ, ◌+◌, ◌≤◌, List, [], ◌∷◌, ◌++◌, length, refl, sym, ◌∙◌, ap, subst, arith, append_assoc, length-append}
use Rattle.std.proofs.lemmas.List.{append-nil}
use Rattle.disk_journal.specs.Text.{IsGroup, AreGroupsFrom, mark, blocks}

pub length-blocks : (groups : List (List ℕ)) → length groups ≤ length (blocks groups)
length-blocks [] = omega arith
length-blocks (g ∷ groups) = omega (arith, length-blocks groups, length-append g (blocks groups))

-- one block more
pub blocks-push : (groups : List (List ℕ)) (g : List ℕ) → blocks (groups ++ g ∷ []) ≡ blocks groups ++ (mark 101 ++ g)
blocks-push [] g = append-nil (mark 101 ++ g)
blocks-push (h ∷ groups) g = ap (λ (l : List ℕ). mark 101 ++ h ++ l) (blocks-push groups g) ∙ sym (append_assoc (mark 101 ++ h) (blocks groups) (mark 101 ++ g))

pub length_push : (groups : List (List ℕ)) (g : List ℕ) → length (blocks (groups ++ g ∷ [])) ≡ length (blocks groups) + 5 + length g
length_push groups g = omega (arith, ap length (blocks-push groups g), length-append (blocks groups) (mark 101 ++ g), length-append (mark 101) g)

pub are_groups-push : (number : ℕ) (groups : List (List ℕ)) (g : List ℕ) → AreGroupsFrom number groups → IsGroup (number + length groups) g → AreGroupsFrom number (groups ++ g ∷ [])
are_groups-push number [] g are is = (subst (λ n. IsGroup n g) (omega arith) is, tt)
are_groups-push number (h ∷ groups) g are is = (are.0, are_groups-push (number + 1) groups g are.1 (subst (λ n. IsGroup n g) (omega arith) is))

pub blocks-append : (done left : List (List ℕ)) → blocks (done ++ left) ≡ blocks done ++ blocks left
blocks-append [] left = refl
blocks-append (g ∷ done) left = ap (λ (l : List ℕ). mark 101 ++ g ++ l) (blocks-append done left) ∙ sym (append_assoc (mark 101 ++ g) (blocks done) (blocks left))

-- the groups behind others
pub are_groups-behind : (number : ℕ) (done left : List (List ℕ)) → AreGroupsFrom number (done ++ left) → AreGroupsFrom (number + length done) left
are_groups-behind number [] left are = subst (λ n. AreGroupsFrom n left) (omega arith) are
are_groups-behind number (g ∷ done) left are = subst (λ n. AreGroupsFrom n left) (omega arith) (are_groups-behind (number + 1) done left are.1)
