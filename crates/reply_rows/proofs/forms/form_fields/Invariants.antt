use Rattle.std.proofs.Common.{◌≡◌, ◌++◌}
use Rattle.std.specs.List.{flat_map}
use Rattle.depot_rows.specs.depot_model.FormRows.{form_fields, shown_field}
use Rattle.depot_rows.specs.spec_form.Fields.{seen_fields}
use Rattle.reply_rows.proofs.forms.form_fields.Given as goal

-- the fields, and those that are left
abbrev pub invariant-loop-name : goal.invariant-loop-name
invariant-loop-name l = l.fields ++ flat_map (shown_field l.shape) (seen_fields l.name-iterator) ≡ form_fields l.form
