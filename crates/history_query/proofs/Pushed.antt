-- Lists of fields, put together one after another.
use Rattle.std.proofs.Common.{◌≡◌, ℕ, suc, ◌+◌, ◌-◌, ◌≤◌, List, [], ◌∷◌, ◌++◌, length, take, drop, get_or, refl, ap, ◌∙◌, append_assoc, arith}
use Rattle.std.proofs.lemmas.List.{take_all}
use Rattle.depot_rows.specs.depot_model.declared.reply.Field.{Field}

-- more behind a list that is another one with something behind it
pub joined_on : (old ys zs made : List Field) → made ≡ old ++ ys → made ++ zs ≡ old ++ (ys ++ zs)
joined_on old ys zs made e = ap (λ (l : List Field). l ++ zs) e ∙ append_assoc old ys zs

pub joined_parts : (front head have : List Field) → (front ++ head) ++ have ≡ front ++ (head ++ have)
joined_parts [] head have = refl
joined_parts (x ∷ front) head have = ap (λ ys. x ∷ ys) (joined_parts front head have)

-- a list is its first with the others
pub parted : {A : Type 0} → (rest : List A) (x : A) → 1 ≤ length rest → x ≡ get_or rest 0 x → x ∷ take (length rest - 1) (drop 1 rest) ≡ rest
parted [] x few is = absurd (omega arith)
parted (y ∷ rest) x few is = λ i. is i ∷ take_all (length (y ∷ rest) - 1) rest (omega arith) i

-- and counts one more than they
pub parted_count : {A : Type 0} → (rest : List A) (n all : ℕ) → 1 ≤ length rest → n + length rest ≡ all → (n + 1) + length (take (length rest - 1) (drop 1 rest)) ≡ all
parted_count [] n all few is = absurd (omega arith)
parted_count (y ∷ rest) n all few is = (λ i. (n + 1) + length (take_all (length (y ∷ rest) - 1) rest (omega arith) i)) ∙ go (length rest) is
  where
    go : (m : ℕ) → n + suc m ≡ all → (n + 1) + m ≡ all
    go m e = omega (arith, e)
