-- The modifiers of a type are what stands behind its first `+`.
use Rattle.std.proofs.Common.{◌≡◌, ℕ, ◌+◌, suc, Bool, true, false, cond, List, [], ◌∷◌, length, refl, sym, ap, ◌∙◌, arith}
use Rattle.std.specs.Prelude.{◌==◌, drop, if◌then◌else◌, not, take}
use Rattle.std.specs.List.{prefix_len}
use Rattle.depot_rows.specs.depot_model.Types.{modifiers}
use Rattle.file_openings.specs.Plus.{behind_plus}

abbrev front : List ℕ → ℕ
front text = prefix_len (λ b. not (b == 0x2B)) text

-- what stands behind a number of bytes and one more
abbrev past : ℕ → List ℕ → List ℕ
past n text = drop (length (take n text) + 1) text

past_more : (b : ℕ) (text : List ℕ) (n : ℕ) → past (1 + n) (b ∷ text) ≡ past n text
past_more b text n =
    let one : 1 + n ≡ suc n = omega arith in
    let more : suc (length (take n text)) + 1 ≡ suc (length (take n text) + 1) = omega arith in
    ap (λ (k : ℕ). past k (b ∷ text)) one ∙ ap (λ (k : ℕ). drop k (b ∷ text)) more

pub modifiers_behind : (text : List ℕ) → behind_plus text ≡ modifiers text
modifiers_behind [] = refl
modifiers_behind (b ∷ text) = go (b == 0x2B) (modifiers_behind text)
  where
    go : (e : Bool) → behind_plus text ≡ modifiers text
        → (if e then text else behind_plus text) ≡ past (cond (not e) (1 + front text) 0) (b ∷ text)
    go true more = refl
    go false more = more ∙ sym (past_more b text (front text))
