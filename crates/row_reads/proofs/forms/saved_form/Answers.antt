use Rattle.std.proofs.Common.{refl, ap, ◌∙◌}
use Rattle.std.specs.Option.{option_copied}
use Rattle.depot_rows.specs.db_records.declared.key.Key.TheVariants as keys
use Rattle.depot_rows.specs.db_records.declared.table.TableId.TheVariants as tables
use Rattle.depot_rows.specs.depot_model.Latest.{kind_word}
use Rattle.depot_rows.specs.Deed.{kind_of}
use Rattle.row_reads.specs.Forms.{form_in}
use Rattle.row_reads.proofs.FormsRead.{form_read}
use Rattle.row_reads.proofs.FoundRows.{at_key}
use Rattle.row_reads.proofs.forms.saved_form.Goals as goal

pub returns : goal.returns
returns c = λ d sound has.
    let version = c.version-version in
    let kind = kind_of c.args.kind in
    let name = c.args.name.now in
    c.in_ok-form.ensures ∙ ap (λ shape. form_in shape (option_copied c.get-row.result)) c.shape_of.ensures
    ∙ form_read kind d name _ sound
    (at_key tables.Domain d _ c.in_ok-key.key (keys.Domain (kind_word kind) name) version.result.now _ has refl
    (c.in_ok-key.ensures ∙ ap (λ word. keys.Domain word name) c.kind_word.ensures) (ap (λ v. v.rows) version.ensures.rows) c.get-row.ensures)
