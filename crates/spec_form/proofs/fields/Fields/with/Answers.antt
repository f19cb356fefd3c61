use Rattle.std.proofs.Common.{◌≡◌, ℕ, List, ◌∷◌, ◌++◌, sym, ap, subst, ◌∙◌}
use Rattle.std.specs.List.{IsDistinct}
use Rattle.std.specs.Str.{bytes_eq}
use Rattle.spec_form.specs.declared.form.Field.{Field}
use Rattle.spec_form.specs.Form.{has_field}
use Rattle.spec_form.specs.Fields.{Entry, seen_fields}
use Rattle.spec_form.proofs.FieldsLemmas.{distinct_names, names, not_before}
use Rattle.spec_form.proofs.With.{with_name}
use Rattle.spec_form.proofs.fields.Fields.with.Goals as goal

pub push-requires : goal.push-requires
push-requires c =
    let at = c.loop-key in
    let key = c.in-Some.key.now.items in
    let field : Field = record { name = c.deref.result.now; lines = c.as_slice.result.now } in
    let rest = names (seen_fields c.next.new.self) in
    let named : names at.copy ++ key ∷ rest ≡ names (seen_fields c.self.inside.by_name.entries) =
    ap (λ (es : List Entry). names at.copy ++ names (seen_fields es)) (sym c.in-Some.ensures.steps) ∙ at.invariant.named ∙ ap names (sym c.self.view_is) in
    let apart : IsDistinct bytes_eq (names (seen_fields c.self.inside.by_name.entries)) = distinct_names c.self.inside.by_name.entries c.into_iter-key-iterator.ensures.into_iter_gives.4 in
    let name : c.in_ok-copy_field.field-0.name ≡ key =
    ap (λ (f : Field). f.name) c.in_ok-copy_field.ensures ∙ with_name c.args.name.now c.args.value.now field ∙ c.deref.ensures.value in
    ap (λ (n : List ℕ). has_field n at.copy) name ∙ not_before key at.copy rest (subst (IsDistinct bytes_eq) (sym named) apart)
