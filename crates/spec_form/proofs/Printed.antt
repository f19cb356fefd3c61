-- What is printed of a form reads to it.
use Rattle.std.proofs.Common.{◌≡◌, ℕ, ◌+◌, Bool, true, false, List, [], ◌∷◌, ◌++◌, reverse, Option, Some, None, Ok, refl, sym, ap, subst, ◌∙◌, append_assoc}
use Rattle.std.specs.List.{AllByRecursion, flat_map}
use Rattle.std.proofs.lemmas.List.{append-nil, reverse-append}
use Rattle.std.proofs.lemmas.List.Concat.{flat_map-append}
use Rattle.depot_path.specs.Bytes.{is_among}
use Rattle.depot_path.specs.Utf8.{is_utf8}
use Rattle.spec_form.specs.declared.shape.Shape.{Shape}
use Rattle.spec_form.specs.declared.shape.FieldKind.{FieldKind}
use Rattle.spec_form.specs.declared.shape.FieldKind.TheVariants.{Single, Lines}
use Rattle.spec_form.specs.declared.form.Field.{Field}
use Rattle.spec_form.specs.Shapes.{kind_of, fields_of}
use Rattle.spec_form.specs.Texts.{trimmed_start, before, behind, text_lines}
use Rattle.spec_form.specs.Form.{FormValue, has_field, value_lines}
use Rattle.spec_form.specs.Reading.{is_skipped, is_further, first_lines, begun, in_front, line_read, after_line, lines_read, lacks, complete_if, complete, form_of}
use Rattle.spec_form.specs.Printing.{tabbed, tabbed_line, printed_as, printed_field, printed, ReadsBack}
use Rattle.spec_form.proofs.Utf8.{cond_true, cond_false, utf8_both}
use Rattle.spec_form.proofs.Cutting.{Clean, before_at, behind_at, among_at, among-append, line_then}
use Rattle.spec_form.proofs.Good.{GoodValue, GoodLine, GoodField, Good, IsRead, is_read}
use Rattle.spec_form.proofs.Names.{field_name, name_begins}

-- ---- one line at a time

read_step : (shape : Shape) (n : ℕ) (line : List ℕ) (lines : List (List ℕ)) (fields more : List Field) → line_read shape line fields ≡ Ok more → lines_read shape n (line ∷ lines) fields ≡ lines_read shape (n + 1) lines more
read_step shape n line lines fields more e = ap (after_line n (λ (m : List Field). lines_read shape (n + 1) lines m)) e

head_line : (shape : Shape) (name rest : List ℕ) (kind : FieldKind) (fields : List Field) → kind_of shape name ≡ Some kind → has_field name fields ≡ false →
    line_read shape (name ++ 0x3A ∷ rest) fields ≡ Ok (record { name = name; lines = first_lines kind rest } ∷ fields)
head_line shape name rest kind fields k h =
    let n = field_name shape name kind k in
    let line = name ++ 0x3A ∷ rest in
    let begins = name_begins name (0x3A ∷ rest) n in
    let new : begun (kind_of shape (before 0x3A line)) (has_field (before 0x3A line) fields) (before 0x3A line) (behind 0x3A line) ≡ Ok (record { name = name; lines = first_lines kind rest }) =
    rw (before_at 0x3A name rest n.no_colon, behind_at 0x3A name rest n.no_colon, k, h) refl in
    cond_false (is_skipped line) _ _ begins.0 ∙ cond_false (is_further line) _ _ begins.1
    ∙ ap (in_front fields) (cond_true (is_among line 0x3A) _ _ (among_at 0x3A name rest) ∙ new)

further_line : (shape : Shape) (line : List ℕ) (f : Field) (fields : List Field) → kind_of shape f.name ≡ Some Lines → GoodLine line →
    line_read shape (0x09 ∷ line) (f ∷ fields) ≡ Ok (record f { lines = f.lines ++ line ∷ [] } ∷ fields)
further_line shape line f fields k g = rw (k, g.trimmed) refl

-- ---- a field of many lines

more_read : (shape : Shape) (n : ℕ) (name : List ℕ) (done more : List (List ℕ)) (fields : List Field) (rest : List ℕ) → kind_of shape name ≡ Some Lines → AllByRecursion GoodLine more →
    (m : ℕ) × (lines_read shape n (text_lines (flat_map tabbed_line more ++ 0x0A ∷ rest)) (record { name = name; lines = done } ∷ fields) ≡ lines_read shape m (text_lines rest) (record { name = name; lines = done ++ more } ∷ fields))
more_read shape n name done [] fields rest k g =
    (n + 1, ap (λ (ls : List (List ℕ)). lines_read shape (n + 1) (text_lines rest) (record { name = name; lines = ls } ∷ fields)) (sym (append-nil done)))
more_read shape n name done (line ∷ more) fields rest k g =
    let next = more_read shape (n + 1) name (done ++ line ∷ []) more fields rest k g.1 in
    let text : flat_map tabbed_line (line ∷ more) ++ 0x0A ∷ rest ≡ (0x09 ∷ line) ++ 0x0A ∷ (flat_map tabbed_line more ++ 0x0A ∷ rest) = simp append_assoc in (
      next.0,
      ap (λ (t : List ℕ). lines_read shape n (text_lines t) (record { name = name; lines = done } ∷ fields)) text
          ∙ ap (λ (ls : List (List ℕ)). lines_read shape n ls (record { name = name; lines = done } ∷ fields)) (line_then (0x09 ∷ line) (flat_map tabbed_line more ++ 0x0A ∷ rest) g.0.clean.one)
          ∙ read_step shape n (0x09 ∷ line) (text_lines (flat_map tabbed_line more ++ 0x0A ∷ rest)) (record { name = name; lines = done } ∷ fields) _ (further_line shape line (record { name = name; lines = done }) fields k g.0)
          ∙ next.1
          ∙ ap (λ (ls : List (List ℕ)). lines_read shape next.0 (text_lines rest) (record { name = name; lines = ls } ∷ fields)) (append_assoc done (line ∷ []) more),
    )

-- what a field's text reads to
abbrev FieldRead : Shape → ℕ → List ℕ → Field → List Field → List ℕ → Type 0
FieldRead shape n text f fields rest = (m : ℕ) × (lines_read shape n (text_lines (text ++ rest)) fields ≡ lines_read shape m (text_lines rest) (f ∷ fields))

lines_field : (shape : Shape) (n : ℕ) (f : Field) (fields : List Field) (rest : List ℕ) → kind_of shape f.name ≡ Some Lines → has_field f.name fields ≡ false → AllByRecursion GoodLine f.lines →
    FieldRead shape n (printed_as (Some Lines) f) f fields rest
lines_field shape n f fields rest k h g =
    let next = more_read shape (n + 1) f.name [] f.lines fields rest k g in
    let name = field_name shape f.name Lines k in
    let head = f.name ++ 0x3A ∷ [] in
    let text : printed_as (Some Lines) f ++ rest ≡ head ++ 0x0A ∷ (flat_map tabbed_line f.lines ++ 0x0A ∷ rest) = simp append_assoc in (
      next.0,
      ap (λ (t : List ℕ). lines_read shape n (text_lines t) fields) text
          ∙ ap (λ (ls : List (List ℕ)). lines_read shape n ls fields) (line_then head (flat_map tabbed_line f.lines ++ 0x0A ∷ rest) (among-append 0x0A f.name (0x3A ∷ []) name.one_line refl))
          ∙ read_step shape n head (text_lines (flat_map tabbed_line f.lines ++ 0x0A ∷ rest)) fields _ (head_line shape f.name [] Lines fields k h)
          ∙ next.1,
    )

-- ---- a single field

value_text : (value : List ℕ) → Clean value → trimmed_start value ≡ value → (value_lines (trimmed_start (flat_map tabbed (value_lines value))) ≡ value_lines value) × (is_among (flat_map tabbed (value_lines value)) 0x0A ≡ false)
value_text [] c t = (refl, refl)
value_text (b ∷ value) c t =
    let text : flat_map tabbed (value_lines (b ∷ value)) ≡ 0x09 ∷ b ∷ value = append-nil (0x09 ∷ b ∷ value) in
    (ap (λ (l : List ℕ). value_lines (trimmed_start l)) text ∙ ap value_lines t, ap (λ (l : List ℕ). is_among l 0x0A) text ∙ c.one)

single_field : (shape : Shape) (n : ℕ) (f : Field) (fields : List Field) (rest : List ℕ) → kind_of shape f.name ≡ Some Single → has_field f.name fields ≡ false → GoodValue f.lines →
    FieldRead shape n (printed_as (Some Single) f) f fields rest
single_field shape n f fields rest k h g =
    let name = field_name shape f.name Single k in
    let tabs = flat_map tabbed f.lines in
    let value = value_text g.value g.clean g.trimmed in
    let one : is_among tabs 0x0A ≡ false = ap (λ (ls : List (List ℕ)). is_among (flat_map tabbed ls) 0x0A) g.is ∙ value.1 in
    let lines : value_lines (trimmed_start tabs) ≡ f.lines = ap (λ (ls : List (List ℕ)). value_lines (trimmed_start (flat_map tabbed ls))) g.is ∙ value.0 ∙ sym g.is in
    let head = f.name ++ 0x3A ∷ tabs in
    let text : printed_as (Some Single) f ++ rest ≡ head ++ 0x0A ∷ 0x0A ∷ rest = simp append_assoc in (
      n + 1 + 1,
      ap (λ (t : List ℕ). lines_read shape n (text_lines t) fields) text
          ∙ ap (λ (ls : List (List ℕ)). lines_read shape n ls fields) (line_then head (0x0A ∷ rest) (among-append 0x0A f.name (0x3A ∷ tabs) name.one_line one))
          ∙ read_step shape n head (text_lines (0x0A ∷ rest)) fields _ (head_line shape f.name tabs Single fields k h)
          ∙ ap (λ (ls : List (List ℕ)). lines_read shape (n + 1 + 1) (text_lines rest) (record { name = f.name; lines = ls } ∷ fields)) lines,
    )

one_field : (shape : Shape) (n : ℕ) (f : Field) (fields : List Field) (rest : List ℕ) (kind : Option FieldKind) → kind_of shape f.name ≡ kind → has_field f.name fields ≡ false → GoodField kind f.lines →
    FieldRead shape n (printed_as kind f) f fields rest
one_field shape n f fields rest None k h g = absurd g
one_field shape n f fields rest (Some Single) k h g = single_field shape n f fields rest k h g
one_field shape n f fields rest (Some Lines) k h g = lines_field shape n f fields rest k h g

-- ---- all fields

printed_snoc : (shape : Shape) (f : Field) (fields : List Field) (rest : List ℕ) → printed shape (reverse (f ∷ fields)) ++ rest ≡ printed shape (reverse fields) ++ (printed_field shape f ++ rest)
printed_snoc shape f fields rest =
    ap (λ (fs : List Field). printed shape fs ++ rest) (reverse-append (f ∷ []) fields)
    ∙ ap (λ (t : List ℕ). t ++ rest) (flat_map-append (printed_field shape) (reverse fields) (f ∷ []) ∙ ap (λ (t : List ℕ). printed shape (reverse fields) ++ t) (append-nil (printed_field shape f)))
    ∙ append_assoc (printed shape (reverse fields)) (printed_field shape f) rest

all_fields : (shape : Shape) (fields : List Field) (rest : List ℕ) → Good shape fields → (m : ℕ) × (lines_read shape 1 (text_lines (printed shape (reverse fields) ++ rest)) [] ≡ lines_read shape m (text_lines rest) fields)
all_fields shape [] rest g = (1, refl)
all_fields shape (f ∷ fields) rest g =
    let first = all_fields shape fields (printed_field shape f ++ rest) g.2 in
    let last = one_field shape first.0 f fields rest (kind_of shape f.name) refl g.1 g.0 in
    (last.0, ap (λ (t : List ℕ). lines_read shape 1 (text_lines t) []) (printed_snoc shape f fields rest) ∙ first.1 ∙ last.1)

-- ---- UTF-8

tabbed_utf8 : (value : List ℕ) → Clean value → is_utf8 (flat_map tabbed (value_lines value)) ≡ true
tabbed_utf8 [] c = refl
tabbed_utf8 (b ∷ value) c = ap is_utf8 (append-nil (0x09 ∷ b ∷ value)) ∙ c.utf8

lines_utf8 : (lines : List (List ℕ)) → AllByRecursion GoodLine lines → is_utf8 (flat_map tabbed_line lines) ≡ true
lines_utf8 [] g = refl
lines_utf8 (line ∷ lines) g = utf8_both (tabbed_line line) (flat_map tabbed_line lines) (utf8_both (0x09 ∷ line) (0x0A ∷ []) g.0.clean.utf8 refl) (lines_utf8 lines g.1)

field_utf8 : (shape : Shape) (f : Field) (kind : Option FieldKind) → kind_of shape f.name ≡ kind → GoodField kind f.lines → is_utf8 (printed_as kind f) ≡ true
field_utf8 shape f None k g = absurd g
field_utf8 shape f (Some Single) k g =
    let name = field_name shape f.name Single k in
    let tabs : is_utf8 (flat_map tabbed f.lines) ≡ true = ap (λ (ls : List (List ℕ)). is_utf8 (flat_map tabbed ls)) g.is ∙ tabbed_utf8 g.value g.clean in
    utf8_both (f.name ++ 0x3A ∷ [] ++ flat_map tabbed f.lines) (0x0A ∷ 0x0A ∷ []) (utf8_both (f.name ++ 0x3A ∷ []) (flat_map tabbed f.lines) (utf8_both f.name (0x3A ∷ []) name.utf8 refl) tabs) refl
field_utf8 shape f (Some Lines) k g =
    let name = field_name shape f.name Lines k in
    utf8_both (f.name ++ 0x3A ∷ 0x0A ∷ [] ++ flat_map tabbed_line f.lines) (0x0A ∷ []) (utf8_both (f.name ++ 0x3A ∷ 0x0A ∷ []) (flat_map tabbed_line f.lines) (utf8_both f.name (0x3A ∷ 0x0A ∷ []) name.utf8 refl) (lines_utf8 f.lines g)) refl

all_utf8 : (shape : Shape) (fields : List Field) (rest : List ℕ) → Good shape fields → is_utf8 rest ≡ true → is_utf8 (printed shape (reverse fields) ++ rest) ≡ true
all_utf8 shape [] rest g u = u
all_utf8 shape (f ∷ fields) rest g u =
    ap is_utf8 (printed_snoc shape f fields rest)
    ∙ all_utf8 shape fields (printed_field shape f ++ rest) g.2 (utf8_both (printed_field shape f) rest (field_utf8 shape f (kind_of shape f.name) refl g.0) u)

-- ---- the law

pub good_reads_back : (shape : Shape) (fields : List Field) → Good shape fields → lacks (fields_of shape) (reverse fields) ≡ false → ReadsBack (record { shape = shape; fields = reverse fields })
good_reads_back shape fields g l =
    let text = printed shape (reverse fields) in
    let read = all_fields shape fields [] g in
    let whole : text ++ [] ≡ text = append-nil text in
    let utf8 : is_utf8 text ≡ true = sym (ap is_utf8 whole) ∙ all_utf8 shape fields [] g refl in
    let lines : lines_read shape 1 (text_lines text) [] ≡ Ok fields = sym (ap (λ (t : List ℕ). lines_read shape 1 (text_lines t) []) whole) ∙ read.1 in
    cond_true (is_utf8 text) _ _ utf8 ∙ ap (complete shape) lines ∙ ap (λ (v : Bool). complete_if v shape (reverse fields)) l

pub read_reads_back : (form : FormValue) → IsRead form → ReadsBack form
read_reads_back form r =
    let same : record { shape = form.shape; fields = reverse r.fields } ≡ form = ap (λ (fs : List Field). record { shape = form.shape; fields = fs }) (sym r.is) in
    subst ReadsBack same (good_reads_back form.shape r.fields r.good r.complete)

-- what a text spells, printed, reads to the same form
pub spelled_reads_back : (shape : Shape) (text : List ℕ) (form : FormValue) → form_of shape text ≡ Ok form → ReadsBack form
spelled_reads_back shape text form e = read_reads_back form (is_read shape text form e)
