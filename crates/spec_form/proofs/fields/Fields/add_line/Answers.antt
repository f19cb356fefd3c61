use Rattle.std.proofs.Common.{ℕ, ◌-◌, List, length, reverse, refl, sym, ap, ◌∙◌}
use Rattle.indexmap.specs.IndexMap.{set_value_at}
use Rattle.spec_form.specs.declared.form.Field.{Field}
use Rattle.spec_form.specs.declared.fields.Fields.TheInside.{Inside}
use Rattle.spec_form.specs.Fields.{lengthened, seen_fields}
use Rattle.spec_form.proofs.FieldsLemmas.{line_seen, no_line}
use Rattle.spec_form.proofs.fields.Fields.add_line.Goals.{in-Some+in_ok-push, in_default}
use Rattle.spec_form.proofs.fields.Fields.add_line.Goals as goal

pub returns : goal.returns
returns c =
    let entries = c.self.inside.by_name.entries in
    let view = ap (λ (fields : List Field). lengthened c.args.line (reverse fields)) c.self.view_is in
    elim c.match-last_mut.branch [
      | in-Some+in_ok-push w ↦
          let last = w.in-Some.ensures in
          let seen = line_seen entries w.in-Some.lines.now c.args.line (last.found.0 refl) (sym last.value) in
          ap (λ (s : Inside). reverse (seen_fields s.by_name.entries)) w.self-inside-is
          ∙ ap (λ (lines : List (List ℕ)). reverse (seen_fields (set_value_at entries (length entries - 1) lines))) w.in_ok-push.ensures.ok
          ∙ seen ∙ view
      | in_default w ↦
          ap (λ (s : Inside). reverse (seen_fields s.by_name.entries)) w.self-inside-is
          ∙ no_line entries c.args.line (λ some. let no = w.in_default.ensures.found.1 some in absurd cc) ∙ view
    ]
