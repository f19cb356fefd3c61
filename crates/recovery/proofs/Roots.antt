-- The bytes of a root, by what stands at each place.
use Rattle.std.proofs.Common.{◌≡◌, ◌≢◌, inl, inr, ℕ, zero, suc, ◌+◌, ◌<◌, ◌≤◌, List, [], ◌∷◌, ◌++◌, length, replicate, get_or, drop, refl, sym, ◌∙◌, ap, subst, arith, length-append}
use Rattle.std.proofs.lemmas.List.{length-replicate}
use Rattle.std.proofs.lemmas.Bool.{cases_lt}
use Rattle.disk_journal.specs.Images.{IsTail, IsRoot}

-- equal bytes at the front
pub front_same : (n v : ℕ) (xs : List ℕ) → n ≤ length xs → ((k : ℕ) → k < n → get_or xs k 0 ≡ v) → xs ≡ replicate n v ++ drop n xs
front_same zero v xs within same = refl
front_same (suc n) v [] within same = absurd (omega (arith, within))
front_same (suc n) v (x ∷ xs) within same =
    let first : x ≡ v = same 0 (omega arith) in
    let rest = front_same n v xs (omega (arith, within)) (λ k below. same (suc k) (omega (arith, below))) in
    ap (λ (b : ℕ). b ∷ xs) first ∙ ap (λ (l : List ℕ). v ∷ l) rest

pub at_front : (n v : ℕ) (tail : List ℕ) (k : ℕ) → k < n → get_or (replicate n v ++ tail) k 0 ≡ v
at_front zero v tail k below = absurd (omega (arith, below))
at_front (suc n) v tail zero below = refl
at_front (suc n) v tail (suc k) below = at_front n v tail k (omega (arith, below))

pub behind_front : (n v : ℕ) (tail : List ℕ) → get_or (replicate n v ++ tail) n 0 ≡ get_or tail 0 0
behind_front zero v tail = refl
behind_front (suc n) v tail = behind_front n v tail

pub drop_front : (n v : ℕ) (tail : List ℕ) → drop n (replicate n v ++ tail) ≡ tail
drop_front zero v tail = refl
drop_front (suc n) v tail = drop_front n v tail

drop_end : (xs : List ℕ) (n : ℕ) → n ≡ length xs → drop n xs ≡ []
drop_end [] zero is = refl
drop_end [] (suc n) is = refl
drop_end (x ∷ xs) zero is = absurd (omega (arith, is))
drop_end (x ∷ xs) (suc n) is = drop_end xs n (omega (arith, is))

append_nil : (xs : List ℕ) → xs ++ [] ≡ xs
append_nil [] = refl
append_nil (x ∷ xs) = ap (λ (l : List ℕ). x ∷ l) (append_nil xs)

-- all bytes are closed
pub all_closed : (rest : List ℕ) (count : ℕ) → count ≡ length rest → ((k : ℕ) → k < count → get_or rest k 0 ≡ 109) → rest ≡ replicate (length rest) 109
all_closed rest count is same =
    front_same count 109 rest (omega (arith, is)) same ∙ ap (λ (l : List ℕ). replicate count 109 ++ l) (drop_end rest count is) ∙ append_nil (replicate count 109) ∙ ap (λ (n : ℕ). replicate n 109) is

-- a root has one generation: the number of its leading open bytes
module _ (root : List ℕ) (count : ℕ) (within : count ≤ length root) (before : (k : ℕ) → k < count → get_or root k 0 ≡ 101) (next : count < length root → get_or root count 0 ≢ 101) where
  pub one_generation : (generation : ℕ) → IsRoot generation root → count ≡ generation
  one_generation generation is = elim (cases_lt count generation) [
    | inl below ↦ absurd (next (omega (arith, below, ap length is.is, length-append (replicate generation 101) is.tail, length-replicate {A = ℕ} generation 101)) (ap (λ (l : List ℕ). get_or l count 0) is.is ∙ at_front generation 101 is.tail count below))
    | inr above ↦ elim (cases_lt generation count) [
      | inl below ↦ absurd (shut_tail is.tail is.shut (omega (arith, below, within, ap length is.is, length-append (replicate generation 101) is.tail, length-replicate {A = ℕ} generation 101)) (sym (behind_front generation 101 is.tail) ∙ ap (λ (l : List ℕ). get_or l generation 0) (sym is.is) ∙ before generation below))
      | inr same ↦ omega (arith, same, above)
    ]
  ]
    where
      shut_tail : (tail : List ℕ) → IsTail tail → 0 < length tail → get_or tail 0 0 ≡ 101 → ⊥
      shut_tail [] shut some is_open = omega (arith, some)
      shut_tail (byte ∷ rest) shut some is_open = shut.0 is_open

  pub tail_of : (generation : ℕ) → IsRoot generation root → IsTail (drop count root)
  tail_of generation is =
      subst IsTail (sym (ap (λ (n : ℕ). drop n root) (one_generation generation is) ∙ ap (λ (l : List ℕ). drop generation l) is.is ∙ drop_front generation 101 is.tail)) is.shut

  pub root_of : IsTail (drop count root) → length root ≡ 4095 → IsRoot count root
  root_of shut long = record { tail = drop count root; is = front_same count 101 root within before; shut = shut; long = long }
