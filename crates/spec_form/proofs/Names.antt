-- The names of fields begin a line, and hold no colon.
use Rattle.std.proofs.Common.{◌≡◌, ℕ, ◌==◌, Bool, true, false, ◌&&◌, not, cond, List, [], ◌∷◌, ◌++◌, Some, refl, subst}
use Rattle.std.specs.Str.{bytes_eq}
use Rattle.std.proofs.lemmas.Slice.Eq.{bytes_eq-Decides}
use Rattle.std.proofs.lemmas.Bool.{and_parts}
use Rattle.depot_path.specs.Bytes.{is_among}
use Rattle.depot_path.specs.Utf8.{is_utf8}
use Rattle.spec_form.specs.declared.shape.Shape.{Shape}
use Rattle.spec_form.specs.declared.shape.Shape.TheVariants.{Client, Label, Group, Protect, Change, Shelf, Job, Fix}
use Rattle.spec_form.specs.declared.shape.FieldKind.{FieldKind}
use Rattle.spec_form.specs.Shapes.{FieldRow, fields_of, kind_in, kind_of}
use Rattle.spec_form.specs.Texts.{is_blank}
use Rattle.spec_form.specs.Reading.{is_skipped, is_further}

-- neither an empty line nor a comment nor a further line begins so
abbrev begins : List ℕ → Bool
begins [] = false
begins (b ∷ name) = not (b == 0x23) && not (is_blank b)

abbrev is_field_name : List ℕ → Bool
is_field_name name = begins name && not (is_among name 0x3A) && not (is_among name 0x0A) && is_utf8 name

abbrev all_names : List FieldRow → Bool
all_names [] = true
all_names (row ∷ rows) = is_field_name row.name && all_names rows

shape_names : (shape : Shape) → all_names (fields_of shape) ≡ true
unfolding fields_of
shape_names Client = refl
shape_names Label = refl
shape_names Group = refl
shape_names Protect = refl
shape_names Change = refl
shape_names Shelf = refl
shape_names Job = refl
shape_names Fix = refl

pub not_true : (v : Bool) → not v ≡ true → v ≡ false
not_true true h = absurd cc
not_true false h = refl

pub same_bytes : (a b : List ℕ) → bytes_eq a b ≡ true → a ≡ b
same_bytes a b h = (bytes_eq-Decides a b).0 h

found_name : (row : FieldRow) (rows : List FieldRow) (name : List ℕ) (kind : FieldKind) (v : Bool) → bytes_eq row.name name ≡ v → is_field_name row.name ≡ true →
    (kind_in rows name ≡ Some kind → is_field_name name ≡ true) → cond v (Some row.kind) (kind_in rows name) ≡ Some kind → is_field_name name ≡ true
found_name row rows name kind true e h k found = subst (λ (n : List ℕ). is_field_name n ≡ true) (same_bytes row.name name e) h
found_name row rows name kind false e h k found = k found

name_in : (rows : List FieldRow) (name : List ℕ) (kind : FieldKind) → all_names rows ≡ true → kind_in rows name ≡ Some kind → is_field_name name ≡ true
name_in [] name kind h e = absurd cc
name_in (row ∷ rows) name kind h e =
    found_name row rows name kind (bytes_eq row.name name) refl (and_parts (is_field_name row.name) (all_names rows) h).0
    (name_in rows name kind (and_parts (is_field_name row.name) (all_names rows) h).1) e

-- what is known of a name that forms of some shape have
pub record IsFieldName (name : List ℕ) : Type 0 where
  pub begins_line : begins name ≡ true
  pub no_colon : is_among name 0x3A ≡ false
  pub one_line : is_among name 0x0A ≡ false
  pub utf8 : is_utf8 name ≡ true

pub field_name : (shape : Shape) (name : List ℕ) (kind : FieldKind) → kind_of shape name ≡ Some kind → IsFieldName name
field_name shape name kind e =
    let all = name_in (fields_of shape) name kind (shape_names shape) e in
    let three = (and_parts _ (is_utf8 name) all).0 in
    let two = (and_parts _ (not (is_among name 0x0A)) three).0 in
    record {
      begins_line = (and_parts (begins name) _ two).0;
      no_colon = not_true (is_among name 0x3A) (and_parts (begins name) _ two).1;
      one_line = not_true (is_among name 0x0A) (and_parts _ (not (is_among name 0x0A)) three).1;
      utf8 = (and_parts _ (is_utf8 name) all).1;
    }

not_skipped : (name rest : List ℕ) → begins name ≡ true → is_skipped (name ++ rest) ≡ false
not_skipped [] rest h = absurd cc
not_skipped (b ∷ name) rest h = not_true (b == 0x23) (and_parts _ _ h).0

not_further : (name rest : List ℕ) → begins name ≡ true → is_further (name ++ rest) ≡ false
not_further [] rest h = absurd cc
not_further (b ∷ name) rest h = not_true (is_blank b) (and_parts _ _ h).1

pub name_begins : (name rest : List ℕ) → IsFieldName name → (is_skipped (name ++ rest) ≡ false) × (is_further (name ++ rest) ≡ false)
name_begins name rest h = (not_skipped name rest h.begins_line, not_further name rest h.begins_line)
