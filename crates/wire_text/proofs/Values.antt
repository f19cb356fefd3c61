-- Printed values, line by line.
use Rattle.std.proofs.Common.{◌≡◌, ℕ, List, [], ◌∷◌, ◌++◌, refl, sym, ap, ◌∙◌, append_assoc, true, Option, Some, None}
use Rattle.std.specs.Prelude.{codes, IfNone}
use Rattle.depot_model.specs.Printed.{printed_value}
use Rattle.wire_text.specs.Parts.{upto, past, is_in, IsFree}
use Rattle.wire_text.proofs.Separators.{split_upto, free_upto}

pub value_plain : (value : List ℕ) → IsFree 10 value → printed_value value ≡ value
value_plain [] free = refl
value_plain (b ∷ value) free = rw free.0 (ap (λ (v : List ℕ). b ∷ v) (value_plain value free.1))

value_line : (line more : List ℕ) → IsFree 10 line → printed_value (line ++ 10 ∷ more) ≡ line ++ (codes "\n\t" ++ printed_value more)
value_line [] more free = refl
value_line (b ∷ line) more free = rw free.0 (ap (λ (v : List ℕ). b ∷ v) (value_line line more free.1))

-- a line more
pub value_more : (before first second out value rest line after : List ℕ) → before ++ printed_value rest ≡ out ++ printed_value value → first ≡ before ++ line → second ≡ first ++ codes "\n\t" → line ≡ upto 10 rest → after ≡ past 10 rest → is_in 10 rest ≡ true → second ++ printed_value after ≡ out ++ printed_value value
value_more before first second out value rest line after h e f l p is =
    let whole : printed_value rest ≡ line ++ (codes "\n\t" ++ printed_value after) =
    ap printed_value (split_upto 10 rest is) ∙ (value_line (upto 10 rest) (past 10 rest) (free_upto 10 rest)
    ∙ (ap (λ (x : List ℕ). x ++ (codes "\n\t" ++ printed_value (past 10 rest))) (sym l) ∙ ap (λ (x : List ℕ). line ++ (codes "\n\t" ++ printed_value x)) (sym p))) in
    ap (λ (x : List ℕ). x ++ printed_value after) (f ∙ ap (λ (x : List ℕ). x ++ codes "\n\t") e)
    ∙ (append_assoc (before ++ line) (codes "\n\t") (printed_value after)
    ∙ (append_assoc before line (codes "\n\t" ++ printed_value after)
    ∙ (ap (λ (x : List ℕ). before ++ x) (sym whole) ∙ h)))

pub by_none : {T : Type 0} {P : Type 0} (r : Option T) → ((x : T) → r ≡ Some x → ⊥) → IfNone r P → P
by_none None differs h = h
by_none (Some x) differs h = absurd (differs x refl)

pub value_last : (before last out value rest : List ℕ) → before ++ printed_value rest ≡ out ++ printed_value value → last ≡ before ++ rest → IsFree 10 rest → last ≡ out ++ printed_value value
value_last before last out value rest h e free = e ∙ (ap (λ (x : List ℕ). before ++ x) (sym (value_plain rest free)) ∙ h)
