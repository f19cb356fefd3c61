-- A form with another value in one of its fields.
use Rattle.std.proofs.Common.{◌≡◌, ℕ, Bool, true, false, ◌&&◌, ◌||◌, not, cond, List, [], ◌∷◌, ◌++◌, map, reverse, Option, Some, None, refl, sym, ap, ◌∙◌}
use Rattle.std.specs.Str.{bytes_eq}
use Rattle.std.proofs.lemmas.List.{reverse-append, map-append}
use Rattle.std.proofs.lemmas.Bool.{and_parts}
use Rattle.depot_path.specs.Bytes.{is_among}
use Rattle.depot_path.specs.Utf8.{is_utf8}
use Rattle.spec_form.specs.declared.shape.Shape.{Shape}
use Rattle.spec_form.specs.declared.shape.FieldKind.{FieldKind}
use Rattle.spec_form.specs.declared.shape.FieldKind.TheVariants.{Single, Lines}
use Rattle.spec_form.specs.declared.form.Field.{Field}
use Rattle.spec_form.specs.Shapes.{FieldRow, kind_of, fields_of}
use Rattle.spec_form.specs.Texts.{trimmed_start}
use Rattle.spec_form.specs.Form.{FormValue, has_field, value_lines, is_value, is_single, has_single, with_value}
use Rattle.spec_form.specs.Reading.{lacks}
use Rattle.spec_form.specs.Printing.{printed_form, ReadsBack}
use Rattle.spec_form.proofs.Good.{GoodValue, GoodField, Good, is_read}
use Rattle.spec_form.proofs.Names.{not_true, same_bytes}
use Rattle.spec_form.proofs.Printed.{read_reads_back}

pub map_reverse : {X Y : Type 0} (f : X → Y) (xs : List X) → map f (reverse xs) ≡ reverse (map f xs)
map_reverse f [] = refl
map_reverse f (x ∷ xs) =
    ap (map f) (reverse-append (x ∷ []) xs) ∙ map-append f (reverse xs) (x ∷ []) ∙ ap (λ (l : List _). l ++ f x ∷ []) (map_reverse f xs)
    ∙ sym (reverse-append (f x ∷ []) (map f xs))

name_if : (v : Bool) (f : Field) (lines : List (List ℕ)) → (cond v (record f { lines = lines }) f).name ≡ f.name
name_if true f lines = refl
name_if false f lines = refl

pub with_name : (name value : List ℕ) (f : Field) → (with_value name value f).name ≡ f.name
with_name name value f = name_if (bytes_eq f.name name) f (value_lines value)

has_with : (n name value : List ℕ) (fields : List Field) → has_field n (map (with_value name value) fields) ≡ has_field n fields
has_with n name value [] = refl
has_with n name value (f ∷ fields) =
    ap (λ (m : List ℕ). bytes_eq m n || has_field n (map (with_value name value) fields)) (with_name name value f)
    ∙ ap (λ (v : Bool). bytes_eq f.name n || v) (has_with n name value fields)

lacks_with : (rows : List FieldRow) (name value : List ℕ) (fields : List Field) → lacks rows (map (with_value name value) fields) ≡ lacks rows fields
lacks_with [] name value fields = refl
lacks_with (row ∷ rows) name value fields =
    ap (λ (v : Bool). (row.required && not v) || lacks rows (map (with_value name value) fields)) (has_with row.name name value fields)
    ∙ ap (λ (v : Bool). (row.required && not (has_field row.name fields)) || v) (lacks_with rows name value fields)

good_if : (shape : Shape) (name value : List ℕ) (f : Field) (v : Bool) → bytes_eq f.name name ≡ v → kind_of shape name ≡ Some Single → GoodValue (value_lines value) → GoodField (kind_of shape f.name) f.lines →
    GoodField (kind_of shape (cond v (record f { lines = value_lines value }) f).name) (cond v (record f { lines = value_lines value }) f).lines
good_if shape name value f true e k v g =
    let kind : kind_of shape f.name ≡ Some Single = ap (kind_of shape) (same_bytes f.name name e) ∙ k in
    rw kind v
good_if shape name value f false e k v g = g

good_with : (shape : Shape) (name value : List ℕ) (fields : List Field) → kind_of shape name ≡ Some Single → GoodValue (value_lines value) → Good shape fields → Good shape (map (with_value name value) fields)
good_with shape name value [] k v g = tt
good_with shape name value (f ∷ fields) k v g = (
  good_if shape name value f (bytes_eq f.name name) refl k v g.0,
  ap (λ (n : List ℕ). has_field n (map (with_value name value) fields)) (with_name name value f) ∙ has_with f.name name value fields ∙ g.1,
  good_with shape name value fields k v g.2,
)

good_value : (value : List ℕ) → is_value value ≡ true → GoodValue (value_lines value)
good_value value h =
    let two = (and_parts (is_utf8 value && not (is_among value 0x0A)) (bytes_eq (trimmed_start value) value) h).0 in
    record {
      value = value;
      is = refl;
      clean = record {
        one = not_true (is_among value 0x0A) (and_parts (is_utf8 value) (not (is_among value 0x0A)) two).1;
        utf8 = (and_parts (is_utf8 value) (not (is_among value 0x0A)) two).0;
      };
      trimmed = same_bytes (trimmed_start value) value (and_parts (is_utf8 value && not (is_among value 0x0A)) (bytes_eq (trimmed_start value) value) h).1;
    }

single_kind : (kind : Option FieldKind) → is_single kind ≡ true → kind ≡ Some Single
single_kind (Some Single) e = refl
single_kind (Some Lines) e = absurd cc
single_kind None e = absurd cc

pub with_reads_back : (form : FormValue) (name value : List ℕ) → ReadsBack form → has_single name form ≡ true → is_value value ≡ true → ReadsBack (record form { fields = map (with_value name value) form.fields })
with_reads_back form name value b h v =
    let k = single_kind (kind_of form.shape name) (and_parts (is_single (kind_of form.shape name)) (has_field name form.fields) h).0 in
    let r = is_read form.shape (printed_form form) form b in
    let turn = map_reverse (with_value name value) r.fields in
    read_reads_back (record form { fields = map (with_value name value) form.fields }) (record {
      fields = map (with_value name value) r.fields;
      is = ap (map (with_value name value)) r.is ∙ turn;
      good = good_with form.shape name value r.fields k (good_value value v) r.good;
      complete = ap (lacks (fields_of form.shape)) (sym turn) ∙ lacks_with (fields_of form.shape) name value (reverse r.fields) ∙ r.complete;
    })
