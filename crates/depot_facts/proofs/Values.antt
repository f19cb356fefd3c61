-- Paths, numbers, types and contents as values of forms.
use Rattle.std.proofs.Common.{◌≡◌, ◌<◌, ◌/◌, ◌%◌, ℕ, zero, suc, Bool, true, false, List, [], ◌∷◌, ◌++◌, length, Option, Some, None, Ok, Err, refl, sym, ap, subst, ◌∙◌, arith}
use Rattle.std.specs.Prelude.{◌&&◌, ◌||◌, ◌==◌, not, codes, decimal, filter, nat_lt, nat_le, slice_index, if◌then◌else◌}
use Rattle.std.specs.List.{list_all, list_any}
use Rattle.std.proofs.lemmas.Bool.{not-true, and_from, or_parts, and_parts}
use Rattle.std.proofs.lemmas.Bool.Decides.{nat_tests}
use Rattle.hex.proofs.HexLemmas.{decode_of-encode_lower}
use Rattle.hex.specs.Hex.{IsBytes, encode_lower, encode_with, lower_digits}
use Rattle.depot_rows.specs.depot_path.Bytes.{same, is_among, is_control}
use Rattle.depot_rows.specs.depot_path.Name.{is_name}
use Rattle.depot_rows.specs.depot_path.Path.{path_fault, first_fault, printed, unescaped, unless, is_path, is_text, begins_with_slashes, has_empty_component, has_bad_escape, has_dot_component, has_three_dots, components}
use Rattle.depot_rows.specs.depot_path.Utf8.{is_utf8}
use Rattle.depot_rows.specs.depot_path.declared.fault.PathFault.{PathFault}
use Rattle.depot_rows.specs.depot_path.declared.fault.PathFault.TheVariants.{NoSlashes, EmptyPart, BadEscape, BadByte, TooLong, Dots}
use Rattle.depot_rows.proofs.depot_path.Paths.{prints_path}
use Rattle.depot_rows.proofs.spec_form.Good.{GoodValue}
use Rattle.depot_rows.proofs.spec_form.Utf8.{ascii-cons}
use Rattle.depot_rows.specs.spec_form.Form.{value_lines}
use Rattle.depot_rows.specs.spec_form.Texts.{trimmed_start, is_blank}
use Rattle.depot_rows.specs.depot_model.Rules.{is_content_text}
use Rattle.depot_rows.specs.depot_model.Types.{base_type, modifiers, is_base, are_modifiers, is_type, printed_type, is_printed_type}
use Rattle.depot_rows.proofs.Keys.{same-is, same-self, number-is}
use Rattle.depot_facts.proofs.Decimals.{decimal_digits, digits_without, digits_utf8, digits_trimmed}
use Rattle.depot_facts.proofs.Tests.{not_false}

-- ---- types

abbrev from_f : Bool → List ℕ
from_f d = if d then 70 ∷ [] else []

abbrev from_l : Bool → Bool → List ℕ
from_l c d = if c then 108 ∷ from_f d else from_f d

abbrev from_w : Bool → Bool → Bool → List ℕ
from_w b c d = if b then 119 ∷ from_l c d else from_l c d

abbrev from_x : Bool → Bool → Bool → Bool → List ℕ
from_x a b c d = if a then 120 ∷ from_w b c d else from_w b c d

text_named : (a b c d : Bool) → is_name (codes "text" ++ codes "+" ++ from_x a b c d) ≡ true
text_named true true true true = refl
text_named true true true false = refl
text_named true true false true = refl
text_named true true false false = refl
text_named true false true true = refl
text_named true false true false = refl
text_named true false false true = refl
text_named true false false false = refl
text_named false true true true = refl
text_named false true true false = refl
text_named false true false true = refl
text_named false true false false = refl
text_named false false true true = refl
text_named false false true false = refl
text_named false false false true = refl
text_named false false false false = refl

binary_named : (a b c d : Bool) → is_name (codes "binary" ++ codes "+" ++ from_x a b c d) ≡ true
binary_named true true true true = refl
binary_named true true true false = refl
binary_named true true false true = refl
binary_named true true false false = refl
binary_named true false true true = refl
binary_named true false true false = refl
binary_named true false false true = refl
binary_named true false false false = refl
binary_named false true true true = refl
binary_named false true true false = refl
binary_named false true false true = refl
binary_named false true false false = refl
binary_named false false true true = refl
binary_named false false true false = refl
binary_named false false false true = refl
binary_named false false false false = refl

either_base : (base : List ℕ) → is_base base ≡ true → (P : List ℕ → Type 0) → P (codes "text") → P (codes "binary") → P base
either_base base e P p q = go (same base (codes "text")) (same base (codes "binary")) refl refl e
  where
    go : (a b : Bool) → same base (codes "text") ≡ a → same base (codes "binary") ≡ b → (a || b) ≡ true → P base
    go true b h k f = subst P (sym (same-is base (codes "text") h)) p
    go false true h k f = subst P (sym (same-is base (codes "binary") k)) q
    go false false h k f = absurd cc

pub type_named : (type : List ℕ) → is_printed_type type ≡ true → is_name type ≡ true
type_named type e =
    go (same type (base_type type)) refl (same-is (printed_type type) type (and_parts (is_type type) (same (printed_type type) type) e).1)
  where
    based : is_base (base_type type) ≡ true
    based = (and_parts (is_base (base_type type)) (same type (base_type type) || are_modifiers (modifiers type)) (and_parts (is_type type) (same (printed_type type) type) e).0).0

    test : ℕ → Bool
    test b = is_among (modifiers type) b

    go : (plain : Bool) → same type (base_type type) ≡ plain
        → (if plain then type else base_type type ++ codes "+" ++ filter (λ b. is_among (modifiers type) b) (codes "xwlF")) ≡ type → is_name type ≡ true
    go true h k = ap is_name (same-is type (base_type type) h) ∙ either_base (base_type type) based (λ base. is_name base ≡ true) refl refl
    go false h k =
        ap is_name (sym k)
        ∙ either_base (base_type type) based
        (λ base. is_name (base ++ codes "+" ++ from_x (is_among (modifiers type) 120) (is_among (modifiers type) 119) (is_among (modifiers type) 108) (is_among (modifiers type) 70)) ≡ true)
        (text_named (is_among (modifiers type) 120) (is_among (modifiers type) 119) (is_among (modifiers type) 108) (is_among (modifiers type) 70))
        (binary_named (is_among (modifiers type) 120) (is_among (modifiers type) 119) (is_among (modifiers type) 108) (is_among (modifiers type) 70))

-- ---- contents

abbrev is_plain : ℕ → Bool
is_plain b = nat_lt b 0x80 && not (b == 0x0A)

index_plain : (xs : List ℕ) (k : ℕ) → list_all is_plain xs ≡ true → is_plain (slice_index xs k) ≡ true
index_plain [] k e = refl
index_plain (x ∷ xs) zero e = (and_parts (is_plain x) (list_all is_plain xs) e).0
index_plain (x ∷ xs) (suc k) e = index_plain xs k (and_parts (is_plain x) (list_all is_plain xs) e).1

encoded_plain : (block : List ℕ) → list_all is_plain (encode_lower block) ≡ true
unfolding encode_with
encoded_plain [] = refl
encoded_plain (b ∷ block) =
    and_from _ _ (index_plain lower_digits (b / 16) refl) (and_from _ _ (index_plain lower_digits (b % 16) refl) (encoded_plain block))

plain_utf8 : (xs : List ℕ) → list_all is_plain xs ≡ true → is_utf8 xs ≡ true
plain_utf8 [] e = refl
plain_utf8 (x ∷ xs) e = ascii-cons x xs (small x (and_parts (nat_lt x 0x80) (not (x == 0x0A)) (and_parts (is_plain x) (list_all is_plain xs) e).0).0) ∙ plain_utf8 xs (and_parts (is_plain x) (list_all is_plain xs) e).1
  where
    small : (y : ℕ) → nat_lt y 0x80 ≡ true → y < 0x80
    small y h = grind (arith, nat_tests)

plain_line : (xs : List ℕ) → list_all is_plain xs ≡ true → is_among xs 0x0A ≡ false
plain_line [] e = refl
plain_line (x ∷ xs) e = go (x == 0x0A) (and_parts (nat_lt x 0x80) (not (x == 0x0A)) (and_parts (is_plain x) (list_all is_plain xs) e).0).1 (plain_line xs (and_parts (is_plain x) (list_all is_plain xs) e).1)
  where
    go : (b : Bool) → not b ≡ true → is_among xs 0x0A ≡ false → (b || is_among xs 0x0A) ≡ false
    go true h later = absurd cc
    go false h later = later

pub good_content : (block : List ℕ) → GoodValue (value_lines (codes "x" ++ encode_lower block))
good_content block = record {
  value = codes "x" ++ encode_lower block;
  is = refl;
  clean = record { one = plain_line (encode_lower block) (encoded_plain block); utf8 = ascii-cons 120 (encode_lower block) (omega arith) ∙ plain_utf8 (encode_lower block) (encoded_plain block) };
  trimmed = refl;
}

pub content_is : (block : List ℕ) → IsBytes block → nat_le (length block) 8388608 ≡ true → is_content_text (codes "x" ++ encode_lower block) ≡ true
content_is block bytes small =
    ap (λ r. elim r [ Err fault ↦ false | Ok x ↦ same (encode_lower x) (encode_lower block) && nat_le (length x) 8388608 ]) (decode_of-encode_lower block bytes)
    ∙ and_from (same (encode_lower block) (encode_lower block)) (nat_le (length block) 8388608) (same-self (encode_lower block)) small

-- ---- paths and numbers

no_control : (c : ℕ) → is_control c ≡ true → (text : List ℕ) → list_any is_control text ≡ false → is_among text c ≡ false
no_control c h [] e = refl
no_control c h (b ∷ text) e = go (b == c) refl (or_parts (is_control b) (list_any is_control text) e) (no_control c h text)
  where
    go : (r : Bool) → (b == c) ≡ r → (is_control b ≡ false) × (list_any is_control text ≡ false) → (list_any is_control text ≡ false → is_among text c ≡ false)
        → (r || is_among text c) ≡ false
    go true k both later = absurd (let f : is_control b ≡ true = ap is_control (number-is b c k) ∙ h in let g = both.0 in cc)
    go false k both later = later both.1

-- what the text of a path is
record IsPathText (text : List ℕ) : Type 0 where
  slashes : begins_with_slashes text ≡ true
  plain : is_text text ≡ true

no_fault : (a b c e f g : Bool)
    → first_fault ((a, TooLong) ∷ (b, NoSlashes) ∷ (c, EmptyPart) ∷ (e, BadEscape) ∷ (f, BadByte) ∷ (g, Dots) ∷ []) ≡ None → (b ≡ false) × (f ≡ false)
no_fault true b c e f g h = absurd cc
no_fault false true c e f g h = absurd cc
no_fault false false true e f g h = absurd cc
no_fault false false false true f g h = absurd cc
no_fault false false false false true g h = absurd cc
no_fault false false false false false g h = (refl, refl)

path_text_is : (path : List ℕ) → is_path path ≡ true → IsPathText (printed path)
path_text_is path is = go (path_fault (printed path)) refl (prints_path path is)
  where
    go : (o : Option PathFault) → path_fault (printed path) ≡ o → unless o (unescaped 0 (printed path)) ≡ Ok path → IsPathText (printed path)
    go (Some fault) e h = absurd cc
    go None e h =
        let free = no_fault (nat_lt 1024 (length (printed path))) (not (begins_with_slashes (printed path)))
        (nat_lt (length (components (printed path))) 2 || has_empty_component (printed path)) (has_bad_escape (printed path))
        (list_any (is_among (codes "@#*")) (printed path) || not (is_text (printed path))) (has_dot_component (printed path) || has_three_dots (printed path)) e in
        record {
          slashes = not_false (begins_with_slashes (printed path)) free.0;
          plain = not_false (is_text (printed path)) (or_parts (list_any (is_among (codes "@#*")) (printed path)) (not (is_text (printed path))) free.1).1;
        }

start_stays : (text : List ℕ) → begins_with_slashes text ≡ true → trimmed_start text ≡ text
start_stays [] e = refl
start_stays (b ∷ text) e = go (is_blank b) refl
  where
    go : (r : Bool) → is_blank b ≡ r → (if r then trimmed_start text else b ∷ text) ≡ b ∷ text
    go true h = absurd (let first : b ≡ 0x2F = begins b text e in let f : is_blank b ≡ false = ap is_blank first in cc)
      where
        begins : (x : ℕ) (more : List ℕ) → begins_with_slashes (x ∷ more) ≡ true → x ≡ 0x2F
        begins x [] k = absurd (let f : codes "//" ≡ x ∷ [] = same-is (codes "//") (x ∷ []) k in cc)
        begins x (y ∷ more) k = let f : codes "//" ≡ x ∷ y ∷ [] = same-is (codes "//") (x ∷ y ∷ []) k in cc
    go false h = refl

pub good_path : (path : List ℕ) → is_path path ≡ true → GoodValue (value_lines (printed path))
good_path path is =
    let text = path_text_is path is in
    record {
      value = printed path;
      is = refl;
      clean = record {
        one = no_control 0x0A refl (printed path) (not-true (list_any is_control (printed path)) (and_parts (is_utf8 (printed path)) (not (list_any is_control (printed path))) text.plain).1);
        utf8 = (and_parts (is_utf8 (printed path)) (not (list_any is_control (printed path))) text.plain).0;
      };
      trimmed = start_stays (printed path) text.slashes;
    }

pub good_decimal : (n : ℕ) → GoodValue (value_lines (decimal n))
good_decimal n = record {
  value = decimal n;
  is = refl;
  clean = record { one = digits_without 0x0A refl (decimal n) (decimal_digits n); utf8 = digits_utf8 (decimal n) (decimal_digits n) };
  trimmed = digits_trimmed (decimal n) (decimal_digits n);
}
