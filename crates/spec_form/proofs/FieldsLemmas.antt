-- Fields as a map keeps them, and as a list.
use Rattle.std.proofs.Common.{◌≡◌, ℕ, ◌+◌, ◌-◌, ◌<◌, ◌||◌, Bool, true, false, cond, List, [], ◌∷◌, ◌++◌, length, map, reverse, slice_get, Option, Some, None, Result, Ok, Err, inl, inr, is_some, unwrap_or, refl, sym, ap, subst, ◌∙◌, arith}
use Rattle.std.specs.Cmp.Lexicographic.{nat_list_eq_equiv}
use Rattle.std.specs.List.{AllByRecursion, IsDistinct}
use Rattle.std.specs.Map.{keys_of, values_of, lookup}
use Rattle.std.specs.Str.{bytes_eq}
use Rattle.std.proofs.lemmas.List.{reverse-append, map-append}
use Rattle.indexmap.specs.IndexMap.{set_value_at}
use Rattle.std.specs.Prelude.{Vec}
use Rattle.std.specs.declared.alloc.Global.{Global}
use Rattle.std.proofs.lemmas.Bool.{or_from}
use Rattle.spec_form.specs.declared.form.Field.{Field}
use Rattle.spec_form.specs.declared.shape.Shape.{Shape}
use Rattle.spec_form.specs.Shapes.{kind_of}
use Rattle.spec_form.specs.Form.{has_field, lines_in}
use Rattle.spec_form.specs.Fields.{Entry, seen_field, seen_fields, added, added_if, first_kind, lengthened}
use Rattle.spec_form.specs.Texts.{before, behind}
use Rattle.spec_form.specs.Reading.{first_lines, begun, new_field, in_front}
use Rattle.spec_form.specs.declared.shape.FieldKind.{FieldKind}
use Rattle.spec_form.specs.declared.fault.FormFaultKind.{FormFaultKind}
use Rattle.spec_form.specs.declared.fault.FormFaultKind.TheVariants.{NoField, Memory}
use Rattle.depot_path.specs.Answers.{Answers, on_ok}
use Rattle.depot_path.specs.Bytes.{is_among}
use Rattle.spec_form.proofs.Trimming.{or_turn}

has_snoc : (name : List ℕ) (fields : List Field) (f : Field) → has_field name (fields ++ f ∷ []) ≡ (bytes_eq f.name name || has_field name fields)
has_snoc name [] f = refl
has_snoc name (g ∷ fields) f = ap (λ (v : Bool). bytes_eq g.name name || v) (has_snoc name fields f) ∙ or_turn (bytes_eq g.name name) (bytes_eq f.name name) (has_field name fields)

-- whether a field is there, whatever the order
pub has_reversed : (name : List ℕ) (fields : List Field) → has_field name (reverse fields) ≡ has_field name fields
has_reversed name [] = refl
has_reversed name (f ∷ fields) =
    ap (has_field name) (reverse-append (f ∷ []) fields) ∙ has_snoc name (reverse fields) f ∙ ap (λ (v : Bool). bytes_eq f.name name || v) (has_reversed name fields)

-- ---- what a map finds

-- the keys that a name stands for
abbrev pub named : List ℕ → Vec ℕ Global → Bool
named name key = bytes_eq name key.items

turned : (a b : List ℕ) → bytes_eq a b ≡ bytes_eq b a
turned a b = nat_list_eq_equiv.symm a b

some_if : {X : Type 0} (v w : Bool) (x : X) (r : Option X) → is_some r ≡ w → is_some (cond v (Some x) r) ≡ (v || w)
some_if true w x r e = refl
some_if false w x r e = e

pub has_seen : (name : List ℕ) (entries : List Entry) → is_some (lookup (named name) entries) ≡ has_field name (seen_fields entries)
has_seen name [] = refl
has_seen name (e ∷ entries) =
    some_if (bytes_eq name e.0.items) (has_field name (seen_fields entries)) e.1 (lookup (named name) entries) (has_seen name entries)
    ∙ ap (λ (v : Bool). v || has_field name (seen_fields entries)) (turned name e.0.items)

lines_if : (v : Bool) (lines rest : List (List ℕ)) (r : Option (List (List ℕ))) → rest ≡ unwrap_or r [] → cond v lines rest ≡ unwrap_or (cond v (Some lines) r) []
lines_if true lines rest r e = refl
lines_if false lines rest r e = e

pub lines_seen : (name : List ℕ) (entries : List Entry) → lines_in (seen_fields entries) name ≡ unwrap_or (lookup (named name) entries) []
lines_seen name [] = refl
lines_seen name (e ∷ entries) =
    ap (λ (v : Bool). cond v e.1 (lines_in (seen_fields entries) name)) (turned e.0.items name)
    ∙ lines_if (bytes_eq name e.0.items) e.1 (lines_in (seen_fields entries) name) (lookup (named name) entries) (lines_seen name entries)

-- ---- a new field

none_if : {X : Type 0} (r : Option X) → is_some r ≡ false → r ≡ None
none_if None e = refl
none_if (Some x) e = absurd cc

pub absent : (name : List ℕ) (entries : List Entry) → has_field name (seen_fields entries) ≡ false → lookup (named name) entries ≡ None
absent name entries e = none_if (lookup (named name) entries) (has_seen name entries ∙ e)

placed_if : (w : Bool) (kind : FieldKind) (name rest : List ℕ) (fields : List Field) → on_ok (λ (l : List Field). reverse l) (added_if w fields (record { name = name; lines = first_lines kind rest })) ≡ in_front (reverse fields) (begun (Some kind) w name rest)
placed_if true kind name rest fields = refl
placed_if false kind name rest fields = ap (λ (l : List Field). Ok l) (reverse-append fields (record { name = name; lines = first_lines kind rest } ∷ []))

placed_by : (v : Bool) (kind : Option FieldKind) (name rest : List ℕ) (fields : List Field) (f : Field) → cond v (begun kind false name rest) (Err NoField) ≡ Ok f →
    on_ok (λ (l : List Field). reverse l) (added fields f) ≡ in_front (reverse fields) (cond v (begun kind (has_field name (reverse fields)) name rest) (Err NoField))
placed_by false kind name rest fields f e = absurd cc
placed_by true None name rest fields f e = absurd cc
placed_by true (Some kind) name rest fields f e =
    let same : record { name = name; lines = first_lines kind rest } ≡ f = cc in
    ap (λ (g : Field). on_ok (λ (l : List Field). reverse l) (added fields g)) (sym same) ∙ placed_if (has_field name fields) kind name rest fields
    ∙ ap (λ (w : Bool). in_front (reverse fields) (begun (Some kind) w name rest)) (sym (has_reversed name fields))

-- a field that a line begins, among these
placed : (shape : Shape) (line : List ℕ) (fields : List Field) (f : Field) → new_field shape line [] ≡ Ok f → on_ok (λ (l : List Field). reverse l) (added fields f) ≡ in_front (reverse fields) (new_field shape line (reverse fields))
placed shape line fields f e = placed_by (is_among line 0x3A) (kind_of shape (before 0x3A line)) (before 0x3A line) (behind 0x3A line) fields f e

told : {X : Type 0} (x : X) (expected : Result X FormFaultKind) → Answers Memory (Ok x) expected → expected ≡ Ok x
told x expected h = elim h.is [ inl e ↦ absurd cc | inr e ↦ sym e ]

reversed_answer : (r : Result (Unit {0}) FormFaultKind) (new : List Field) → on_ok (λ (l : List Field). reverse l) (on_ok (λ (x : Unit {0}). new) r) ≡ on_ok (λ (x : Unit {0}). reverse new) r
reversed_answer (Ok x) new = refl
reversed_answer (Err kind) new = refl

pub added_answer : (shape : Shape) (line : List ℕ) (old new : List Field) (f : Field) (r : Result (Unit {0}) FormFaultKind) → Answers Memory (Ok f) (new_field shape line []) →
    Answers Memory (on_ok (λ (x : Unit {0}). new) r) (added old f) → Answers Memory (on_ok (λ (x : Unit {0}). reverse new) r) (in_front (reverse old) (new_field shape line (reverse old)))
added_answer shape line old new f r h k =
    elim k.is [
      | inl e ↦ record { is = inl (sym (reversed_answer r new) ∙ ap (λ (s : Result (List Field) FormFaultKind). on_ok (λ (l : List Field). reverse l) s) e) }
      | inr e ↦ record {
        is = inr (sym (reversed_answer r new) ∙ ap (λ (s : Result (List Field) FormFaultKind). on_ok (λ (l : List Field). reverse l) s) e ∙ placed shape line old f (told f (new_field shape line []) h));
      }
    ]

-- ---- the last field

last_split : (entries : List Entry) → 0 < length entries → (front : List Entry) × (e : Entry) × (entries ≡ front ++ e ∷ [])
last_split [] some = absurd (omega arith)
last_split (e ∷ []) some = ([], e, refl)
last_split (e ∷ f ∷ entries) some = let more = last_split (f ∷ entries) (omega arith) in (e ∷ more.0, more.1, ap (λ (l : List Entry). e ∷ l) more.2)

length_snoc : (front : List Entry) (e : Entry) → length (front ++ e ∷ []) ≡ length front + 1
length_snoc [] e = refl
length_snoc (f ∷ front) e = let more : length (front ++ e ∷ []) ≡ length front + 1 = length_snoc front e in omega arith

get_last : (front : List Entry) (e : Entry) → slice_get (front ++ e ∷ []) (length front) ≡ Some e
get_last [] e = refl
get_last (f ∷ front) e = get_last front e

get_value : (front : List Entry) (e : Entry) → slice_get (values_of (front ++ e ∷ [])) (length front) ≡ Some e.1
get_value [] e = refl
get_value (f ∷ front) e = get_value front e

set_last : (front : List Entry) (e : Entry) (lines : List (List ℕ)) → set_value_at (front ++ e ∷ []) (length front) lines ≡ front ++ (e.0, lines) ∷ []
set_last [] e lines = refl
set_last (f ∷ front) e lines = ap (λ (l : List Entry). f ∷ l) (set_last front e lines)

reversed_seen : (front : List Entry) (e : Entry) → reverse (seen_fields (front ++ e ∷ [])) ≡ seen_field e ∷ reverse (seen_fields front)
reversed_seen front e = ap (λ (l : List Field). reverse l) (map-append seen_field front (e ∷ [])) ∙ reverse-append (seen_fields front) (seen_field e ∷ [])

last_place : (front : List Entry) (e : Entry) → length (front ++ e ∷ []) - 1 ≡ length front
last_place front e = omega (arith, length_snoc front e)

same_some : {X : Type 0} (x y : X) → Some x ≡ Some y → x ≡ y
same_some x y e = cc

kind_at : (shape : Shape) (front : List Entry) (e f : Entry) → slice_get (front ++ e ∷ []) (length (front ++ e ∷ []) - 1) ≡ Some f → first_kind shape (reverse (seen_fields (front ++ e ∷ []))) ≡ kind_of shape f.0.items
kind_at shape front e f at =
    let same : e ≡ f = same_some e f (sym (get_last front e) ∙ ap (λ (n : ℕ). slice_get (front ++ e ∷ []) n) (sym (last_place front e)) ∙ at) in
    ap (first_kind shape) (reversed_seen front e) ∙ ap (λ (g : Entry). kind_of shape g.0.items) same

pub last_kind : (shape : Shape) (entries : List Entry) (e : Entry) → 0 < length entries → slice_get entries (length entries - 1) ≡ Some e → first_kind shape (reverse (seen_fields entries)) ≡ kind_of shape e.0.items
last_kind shape entries e some =
    let s = last_split entries some in
    subst (λ (l : List Entry). slice_get l (length l - 1) ≡ Some e → first_kind shape (reverse (seen_fields l)) ≡ kind_of shape e.0.items) (sym s.2) (kind_at shape s.0 s.1 e)

line_at : (front : List Entry) (e : Entry) (lines : List (List ℕ)) (line : List ℕ) → slice_get (values_of (front ++ e ∷ [])) (length (front ++ e ∷ []) - 1) ≡ Some lines →
    reverse (seen_fields (set_value_at (front ++ e ∷ []) (length (front ++ e ∷ []) - 1) (lines ++ line ∷ []))) ≡ lengthened line (reverse (seen_fields (front ++ e ∷ [])))
line_at front e lines line at =
    let same : e.1 ≡ lines = same_some e.1 lines (sym (get_value front e) ∙ ap (λ (n : ℕ). slice_get (values_of (front ++ e ∷ [])) n) (sym (last_place front e)) ∙ at) in
    ap (λ (n : ℕ). reverse (seen_fields (set_value_at (front ++ e ∷ []) n (lines ++ line ∷ [])))) (last_place front e)
    ∙ ap (λ (l : List Entry). reverse (seen_fields l)) (set_last front e (lines ++ line ∷ []))
    ∙ reversed_seen front (e.0, lines ++ line ∷ [])
    ∙ ap (λ (ls : List (List ℕ)). record { name = e.0.items; lines = ls ++ line ∷ [] } ∷ reverse (seen_fields front)) (sym same)
    ∙ sym (ap (lengthened line) (reversed_seen front e))

pub line_seen : (entries : List Entry) (lines : List (List ℕ)) (line : List ℕ) → 0 < length entries → slice_get (values_of entries) (length entries - 1) ≡ Some lines →
    reverse (seen_fields (set_value_at entries (length entries - 1) (lines ++ line ∷ []))) ≡ lengthened line (reverse (seen_fields entries))
line_seen entries lines line some =
    let s = last_split entries some in
    subst (λ (l : List Entry). slice_get (values_of l) (length l - 1) ≡ Some lines → reverse (seen_fields (set_value_at l (length l - 1) (lines ++ line ∷ []))) ≡ lengthened line (reverse (seen_fields l)))
    (sym s.2) (line_at s.0 s.1 lines line)

pub no_line : (entries : List Entry) (line : List ℕ) → (0 < length entries → ⊥) → reverse (seen_fields entries) ≡ lengthened line (reverse (seen_fields entries))
no_line [] line none = refl
no_line (e ∷ entries) line none = absurd (none (omega arith))

-- ---- copies

abbrev pub names : List Field → List (List ℕ)
names fields = map (λ (f : Field). f.name) fields

apart_names : (name : List ℕ) (entries : List Entry) → AllByRecursion (λ (key : Vec ℕ Global). bytes_eq name key.items ≡ false) (keys_of entries) →
    AllByRecursion (λ (n : List ℕ). bytes_eq name n ≡ false) (names (seen_fields entries))
apart_names name [] h = tt
apart_names name (e ∷ entries) h = (h.0, apart_names name entries h.1)

-- no two fields of a map have one name
pub distinct_names : (entries : List Entry) → IsDistinct (λ (x y : Vec ℕ Global). bytes_eq x.items y.items) (keys_of entries) → IsDistinct bytes_eq (names (seen_fields entries))
unfolding IsDistinct
distinct_names [] h = tt
distinct_names (e ∷ entries) h = (apart_names e.0.items entries h.0, distinct_names entries h.1)

apart_from : (name k : List ℕ) (front : List Field) (rest : List (List ℕ)) → AllByRecursion (λ (n : List ℕ). bytes_eq name n ≡ false) (names front ++ k ∷ rest) → bytes_eq name k ≡ false
apart_from name k [] rest h = h.0
apart_from name k (f ∷ front) rest h = apart_from name k front rest h.1

-- a name that comes later is none of those before it
pub not_before : (k : List ℕ) (front : List Field) (rest : List (List ℕ)) → IsDistinct bytes_eq (names front ++ k ∷ rest) → has_field k front ≡ false
unfolding IsDistinct
not_before k [] rest h = refl
not_before k (f ∷ front) rest h = or_from (bytes_eq f.name k) (has_field k front) (apart_from f.name k front rest h.0) (not_before k front rest h.1)
