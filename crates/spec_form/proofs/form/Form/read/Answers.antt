use Rattle.std.proofs.Common.{inl, inr, ◌≡◌, ℕ, Bool, true, false, List, [], reverse, Result, Ok, sym, ap, ◌∙◌}
use Rattle.std.proofs.lemmas.List.{reverse-reverse}
use Rattle.depot_path.specs.Answers.{Answers}
use Rattle.depot_path.specs.Utf8.{is_utf8}
use Rattle.spec_form.specs.declared.shape.Shape.{Shape}
use Rattle.spec_form.specs.declared.form.Field.{Field}
use Rattle.spec_form.specs.declared.fault.FormFault.{FormFault}
use Rattle.spec_form.specs.Shapes.{fields_of}
use Rattle.spec_form.specs.Texts.{text_lines}
use Rattle.spec_form.specs.Reading.{lines_read, lacks, complete, complete_if, no_memory, form_of}
use Rattle.spec_form.proofs.Utf8.{cond_true}
use Rattle.spec_form.proofs.Printed.{spelled_reads_back}
use Rattle.spec_form.proofs.form.Form.read.Goals as goal

told : (fields : List Field) (expected : Result (List Field) FormFault) → Answers no_memory (Ok fields) expected → expected ≡ Ok fields
told fields expected h = elim h.is [ inl e ↦ absurd cc | inr e ↦ sym e ]

spelled : (shape : Shape) (text : List ℕ) (fields : List Field) → is_utf8 text ≡ true → Answers no_memory (Ok (reverse fields)) (lines_read shape 1 (text_lines text) []) → lacks (fields_of shape) fields ≡ false →
    form_of shape text ≡ Ok (record { shape = shape; fields = fields })
spelled shape text fields u h l =
    cond_true (is_utf8 text) _ _ u ∙ ap (complete shape) (told (reverse fields) (lines_read shape 1 (text_lines text) []) h)
    ∙ ap (λ (fs : List Field). complete_if (lacks (fields_of shape) fs) shape fs) (reverse-reverse fields)
    ∙ ap (λ (v : Bool). complete_if v shape fields) l

pub invariant_of-result : goal.invariant_of-result
invariant_of-result c =
    let u : is_utf8 c.args.text.now ≡ true = sym c.is_utf8.ensures ∙ c.if-not-is_utf8.false in
    let l : lacks (fields_of c.args.shape) c.in_ok-fields.fields ≡ false = cc in
    (spelled_reads_back c.args.shape c.args.text.now (record { shape = c.args.shape; fields = c.in_ok-fields.fields })
    (spelled c.args.shape c.args.text.now c.in_ok-fields.fields u c.in_ok-fields.ensures l))
