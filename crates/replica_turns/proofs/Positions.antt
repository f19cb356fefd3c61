-- The text of a position, part by part.
use Rattle.std.proofs.Common.{◌≡◌, ℕ, Bool, true, false, List, [], ◌∷◌, ◌++◌, refl, sym, ap, ◌∙◌, append_assoc, append-nil}
use Rattle.std.specs.Prelude.{◌==◌, codes, decimal}
use Rattle.std.specs.List.{list_all}
use Rattle.std.proofs.lemmas.Bool.{and_parts}
use Rattle.depot_rows.specs.depot_path.Bytes.{is_digit}
use Rattle.depot_rows.proofs.Keys.{number-is}
use Rattle.depot_facts.proofs.Decimals.{decimal_digits}
use Rattle.depot_rows.specs.depot_model.Printed.{printed, printed_field, printed_value}
use Rattle.depot_rows.specs.depot_model.Rows.{number_field}
use Rattle.depot_runs.specs.Replica.{position_row}
use Rattle.wire_text.specs.Parts.{IsFree}
use Rattle.wire_text.proofs.Values.{value_plain}

digits_plain : (ds : List ℕ) → list_all is_digit ds ≡ true → IsFree 10 ds
digits_plain [] e = tt
digits_plain (d ∷ ds) e = (apart (d == 10) refl (and_parts (is_digit d) (list_all is_digit ds) e).0, digits_plain ds (and_parts (is_digit d) (list_all is_digit ds) e).1)
  where
    apart : (b : Bool) → (d == 10) ≡ b → is_digit d ≡ true → (d == 10) ≡ false
    apart true h k = absurd (let f : is_digit d ≡ false = ap is_digit (number-is d 10 h) in cc)
    apart false h k = h

number_plain : (n : ℕ) → printed_value (decimal n) ≡ decimal n
number_plain n = value_plain (decimal n) (digits_plain (decimal n) (decimal_digits n))

-- a field that has a number
pub field_parts : (out name : List ℕ) (n : ℕ) → out ++ codes "... " ++ name ++ codes " " ++ decimal n ++ codes "\n" ≡ out ++ printed_field (number_field name n)
field_parts out name n =
    let dots : List ℕ = codes "... " in
    let blank : List ℕ = codes " " in
    let line : List ℕ = codes "\n" in
    let value = printed_value (decimal n) in
    let named : out ++ (dots ++ name) ≡ out ++ dots ++ name = sym (append_assoc out dots name) in
    let parted : out ++ (dots ++ name ++ blank) ≡ out ++ dots ++ name ++ blank = sym (append_assoc out (dots ++ name) blank) ∙ ap (λ (x : List ℕ). x ++ blank) named in
    let valued : out ++ (dots ++ name ++ blank ++ value) ≡ out ++ dots ++ name ++ blank ++ value = sym (append_assoc out (dots ++ name ++ blank) value) ∙ ap (λ (x : List ℕ). x ++ value) parted in
    let ended : out ++ (dots ++ name ++ blank ++ value ++ line) ≡ out ++ dots ++ name ++ blank ++ value ++ line =
    sym (append_assoc out (dots ++ name ++ blank ++ value) line) ∙ ap (λ (x : List ℕ). x ++ line) valued in
    ap (λ (v : List ℕ). out ++ dots ++ name ++ blank ++ v ++ line) (sym (number_plain n)) ∙ sym ended

-- two fields, and the end
rows_parts : (a b n : List ℕ) → a ++ b ++ codes "\n... end " ++ n ++ codes "\n\n" ≡ a ++ (b ++ []) ++ codes "\n" ++ [] ++ [] ++ codes "... end " ++ n ++ codes "\n\n"
rows_parts a b n =
    let end : List ℕ = codes "... end " in
    let line : List ℕ = codes "\n" in
    let rows = a ++ (b ++ []) ++ line in
    let lined : a ++ b ++ line ≡ rows ++ [] ++ [] =
    ap (λ (x : List ℕ). a ++ x ++ line) (sym (append-nil b)) ∙ (sym (append-nil rows) ∙ sym (append-nil (rows ++ []))) in
    ap (λ (x : List ℕ). x ++ n ++ codes "\n\n") (sym (append_assoc (a ++ b) line end) ∙ ap (λ (x : List ℕ). x ++ end) lined)

pub position_parts : (generation changes number : ℕ)
    → printed_field (number_field (codes "generation") generation) ++ printed_field (number_field (codes "changes") changes) ++ codes "\n... end " ++ decimal number ++ codes "\n\n"
    ≡ printed (position_row generation changes ∷ []) number
position_parts generation changes number =
    rows_parts (printed_field (number_field (codes "generation") generation)) (printed_field (number_field (codes "changes") changes)) (decimal number)
