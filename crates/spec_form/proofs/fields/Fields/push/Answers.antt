use Rattle.std.proofs.Common.{◌≡◌, ℕ, List, [], ◌∷◌, ◌++◌, None, Vec, ap, ◌∙◌}
use Rattle.std.proofs.lemmas.List.{map-append}
use Rattle.std.specs.declared.alloc.Global.{Global}
use Rattle.std.specs.Str.{bytes_eq}
use Rattle.indexmap.specs.IndexMap.{get}
use Rattle.indexmap.proofs.CallerLemmas.{insert_entry-new}
use Rattle.spec_form.specs.declared.form.Field.{Field}
use Rattle.spec_form.specs.Form.{has_field}
use Rattle.spec_form.specs.Fields.{seen_field, seen_fields}
use Rattle.spec_form.proofs.FieldsLemmas.{absent}
use Rattle.spec_form.proofs.fields.Fields.push.Goals as goal

pub returns : goal.returns
returns c =
    let map = c.self.inside.by_name in
    let key = c.into_vec.result in
    let f = c.args.field in
    let none : get (λ (x y : Vec ℕ Global). bytes_eq x.items y.items) map key ≡ None =
    absent key.items map.entries (ap (λ (n : List ℕ). has_field n (seen_fields map.entries)) c.into_vec.ensures ∙ ap (has_field f.name) c.self.view_is ∙ c.requires) in
    ap seen_fields (c.in_ok-insert.ensures.entries ∙ insert_entry-new (λ (x y : Vec ℕ Global). bytes_eq x.items y.items) map key f.lines none)
    ∙ map-append seen_field map.entries ((key, f.lines) ∷ [])
    ∙ ap (λ (fields : List Field). fields ++ seen_field (key, f.lines) ∷ []) c.self.view_is
    ∙ ap (λ (n : List ℕ). c.args.self.now ++ record { name = n; lines = f.lines } ∷ []) c.into_vec.ensures
