-- What is known of the fields of a form that was read.
use Rattle.std.proofs.Common.{◌≡◌, ℕ, ◌+◌, Bool, true, false, cond, List, [], ◌∷◌, ◌++◌, reverse, Option, Some, None, Result, Ok, Err, refl, sym, ap, subst, ◌∙◌, arith}
use Rattle.std.specs.List.{AllByRecursion}
use Rattle.depot_path.specs.Bytes.{is_among}
use Rattle.depot_path.specs.Utf8.{is_utf8}
use Rattle.spec_form.specs.declared.shape.Shape.{Shape}
use Rattle.spec_form.specs.declared.shape.FieldKind.{FieldKind}
use Rattle.spec_form.specs.declared.shape.FieldKind.TheVariants.{Single, Lines}
use Rattle.spec_form.specs.declared.form.Field.{Field}
use Rattle.spec_form.specs.declared.fault.FormFaultKind.{FormFaultKind}
use Rattle.spec_form.specs.declared.fault.FormFaultKind.TheVariants.{NoField, NotUtf8}
use Rattle.spec_form.specs.declared.fault.FormFault.{FormFault}
use Rattle.spec_form.specs.Shapes.{kind_of, fields_of}
use Rattle.spec_form.specs.Texts.{trimmed_start, trimmed_end, before, behind, text_lines}
use Rattle.spec_form.specs.Form.{FormValue, has_field, value_lines}
use Rattle.spec_form.specs.Reading.{is_skipped, is_further, first_lines, begun, new_field, longer_if, in_front, continued, line_read, after_line, lines_read, lacks, complete_if, complete, whole_fault, form_of}
use Rattle.spec_form.proofs.Utf8.{utf8_rest}
use Rattle.spec_form.proofs.Cutting.{Clean, clean_lines, parts_at, among_parts}
use Rattle.spec_form.proofs.Trimming.{start_twice, trimmed_twice, among_start, among_end, utf8_start, utf8_end}

-- the lines of a single field
pub record GoodValue (lines : List (List ℕ)) : Type 0 where
  pub value : List ℕ
  pub is : lines ≡ value_lines value
  pub clean : Clean value
  pub trimmed : trimmed_start value ≡ value

-- a line of a field of many lines
pub record GoodLine (line : List ℕ) : Type 0 where
  pub clean : Clean line
  pub trimmed : trimmed_end (trimmed_start line) ≡ line

abbrev pub GoodField : Option FieldKind → List (List ℕ) → Type 0
GoodField None lines = ⊥
GoodField (Some Single) lines = GoodValue lines
GoodField (Some Lines) lines = AllByRecursion GoodLine lines

-- fields of a form, the last one first
abbrev pub Good : Shape → List Field → Type 0
Good shape [] = Unit {0}
Good shape (f ∷ fields) = GoodField (kind_of shape f.name) f.lines × (has_field f.name fields ≡ false) × Good shape fields

clean_start : (line : List ℕ) → Clean line → Clean (trimmed_start line)
clean_start line c = record { one = among_start line 0x0A c.one; utf8 = utf8_start line c.utf8 }

clean_end : (line : List ℕ) → Clean line → Clean (trimmed_end line)
clean_end line c = record { one = among_end line 0x0A c.one; utf8 = utf8_end line c.utf8 }

good_line : (line : List ℕ) → Clean line → GoodLine (trimmed_end (trimmed_start line))
good_line line c = record { clean = clean_end (trimmed_start line) (clean_start line c); trimmed = trimmed_twice line }

good_lines : (line : List ℕ) → GoodLine line → AllByRecursion GoodLine (value_lines line)
good_lines [] g = tt
good_lines (b ∷ line) g = (g, tt)

good_first : (kind : FieldKind) (rest : List ℕ) → Clean rest → GoodField (Some kind) (first_lines kind rest)
good_first Single rest c = record { value = trimmed_start rest; is = refl; clean = clean_start rest c; trimmed = start_twice rest }
good_first Lines rest c = good_lines (trimmed_end (trimmed_start rest)) (good_line rest c)

good_snoc : (lines : List (List ℕ)) (line : List ℕ) → AllByRecursion GoodLine lines → GoodLine line → AllByRecursion GoodLine (lines ++ line ∷ [])
good_snoc [] line h g = (g, tt)
good_snoc (l ∷ lines) line h g = (h.0, good_snoc lines line h.1 g)

good_longer : (shape : Shape) (kind : Option FieldKind) (line : List ℕ) (f : Field) (fields more : List Field) → GoodField kind f.lines → GoodLine line →
    in_front fields (longer_if kind line f) ≡ Ok more → GoodField kind (f.lines ++ line ∷ []) × (record f { lines = f.lines ++ line ∷ [] } ∷ fields ≡ more)
good_longer shape None line f fields more h g e = absurd cc
good_longer shape (Some Single) line f fields more h g e = absurd cc
good_longer shape (Some Lines) line f fields more h g e = (good_snoc f.lines line h g, cc)

good_continued : (shape : Shape) (line : List ℕ) (fields more : List Field) → Clean line → Good shape fields → continued shape line fields ≡ Ok more → Good shape more
good_continued shape line [] more c g e = absurd cc
good_continued shape line (f ∷ fields) more c g e =
    let h = good_longer shape (kind_of shape f.name) (trimmed_end (trimmed_start line)) f fields more g.0 (good_line line c) e in
    subst (Good shape) h.1 (h.0, g.1, g.2)

good_begun : (shape : Shape) (kind : Option FieldKind) (there : Bool) (name rest : List ℕ) (fields more : List Field) → kind_of shape name ≡ kind → has_field name fields ≡ there → Clean rest → Good shape fields →
    in_front fields (begun kind there name rest) ≡ Ok more → Good shape more
good_begun shape None there name rest fields more k h c g e = absurd cc
good_begun shape (Some kind) true name rest fields more k h c g e = absurd cc
good_begun shape (Some kind) false name rest fields more k h c g e =
    let same : record { name = name; lines = first_lines kind rest } ∷ fields ≡ more = cc in
    subst (Good shape) same (rw k (good_first kind rest c), h, g)

clean_behind : (line : List ℕ) → is_among line 0x3A ≡ true → Clean line → Clean (behind 0x3A line)
clean_behind line h c = record {
  one = (among_parts 0x3A 0x0A line c.one).1;
  utf8 = utf8_rest (before 0x3A line) 0x3A (behind 0x3A line) (omega arith) (sym (ap is_utf8 (parts_at 0x3A line h)) ∙ c.utf8);
}

good_new : (shape : Shape) (line : List ℕ) (fields more : List Field) (v : Bool) → is_among line 0x3A ≡ v → Clean line → Good shape fields →
    in_front fields (cond v (begun (kind_of shape (before 0x3A line)) (has_field (before 0x3A line) fields) (before 0x3A line) (behind 0x3A line)) (Err NoField)) ≡ Ok more → Good shape more
good_new shape line fields more true a c g e =
    good_begun shape (kind_of shape (before 0x3A line)) (has_field (before 0x3A line) fields) (before 0x3A line) (behind 0x3A line) fields more refl refl (clean_behind line a c) g e
good_new shape line fields more false a c g e = absurd cc

good_by : (shape : Shape) (line : List ℕ) (fields more : List Field) (v w : Bool) → Clean line → Good shape fields →
    cond v (Ok fields) (cond w (continued shape line fields) (in_front fields (new_field shape line fields))) ≡ Ok more → Good shape more
good_by shape line fields more true w c g e = let same : fields ≡ more = cc in subst (Good shape) same g
good_by shape line fields more false true c g e = good_continued shape line fields more c g e
good_by shape line fields more false false c g e = good_new shape line fields more (is_among line 0x3A) refl c g e

good_step : (shape : Shape) (n : ℕ) (behind : List Field → Result (List Field) FormFault) (r : Result (List Field) FormFaultKind) (out : List Field) →
    ((more : List Field) → r ≡ Ok more → behind more ≡ Ok out → Good shape out) → after_line n behind r ≡ Ok out → Good shape out
good_step shape n behind (Err kind) out k e = absurd cc
good_step shape n behind (Ok more) out k e = k more refl e

good_read : (shape : Shape) (n : ℕ) (lines : List (List ℕ)) (fields out : List Field) → AllByRecursion Clean lines → Good shape fields → lines_read shape n lines fields ≡ Ok out → Good shape out
good_read shape n [] fields out c g e = let same : fields ≡ out = cc in subst (Good shape) same g
good_read shape n (line ∷ lines) fields out c g e =
    good_step shape n (λ (more : List Field). lines_read shape (n + 1) lines more) (line_read shape line fields) out
    (λ (more : List Field) (k : line_read shape line fields ≡ Ok more) (h : lines_read shape (n + 1) lines more ≡ Ok out).
    good_read shape (n + 1) lines more out c.1 (good_by shape line fields more (is_skipped line) (is_further line) c.0 g k) h) e

-- a form that was read: its fields, the last one first
pub record IsRead (form : FormValue) : Type 0 where
  pub fields : List Field
  pub is : form.fields ≡ reverse fields
  pub good : Good form.shape fields
  pub complete : lacks (fields_of form.shape) (reverse fields) ≡ false

complete_by : (shape : Shape) (fields : List Field) (form : FormValue) (v : Bool) → lacks (fields_of shape) (reverse fields) ≡ v → Good shape fields → complete_if v shape (reverse fields) ≡ Ok form → IsRead form
complete_by shape fields form true l g e = absurd cc
complete_by shape fields form false l g e =
    let value : FormValue = record { shape = shape; fields = reverse fields } in
    let same : value ≡ form = cc in
    let here : IsRead value = record { fields = fields; is = refl; good = g; complete = l } in
    subst IsRead same here

read_by : (shape : Shape) (form : FormValue) (r : Result (List Field) FormFault) → ((out : List Field) → r ≡ Ok out → Good shape out) → complete shape r ≡ Ok form → IsRead form
read_by shape form (Err fault) g e = absurd cc
read_by shape form (Ok fields) g e = complete_by shape fields form (lacks (fields_of shape) (reverse fields)) refl (g fields refl) e

utf8_by : (shape : Shape) (text : List ℕ) (form : FormValue) (v : Bool) → is_utf8 text ≡ v →
    cond v (complete shape (lines_read shape 1 (text_lines text) [])) (Err (whole_fault NotUtf8)) ≡ Ok form → IsRead form
utf8_by shape text form true u e =
    read_by shape form (lines_read shape 1 (text_lines text) []) (λ (out : List Field) (h : lines_read shape 1 (text_lines text) [] ≡ Ok out). good_read shape 1 (text_lines text) [] out (clean_lines text u) tt h) e
utf8_by shape text form false u e = absurd cc

-- what a text spells
pub is_read : (shape : Shape) (text : List ℕ) (form : FormValue) → form_of shape text ≡ Ok form → IsRead form
is_read shape text form e = utf8_by shape text form (is_utf8 text) refl e
