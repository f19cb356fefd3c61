use Rattle.std.proofs.Common.{refl, ap, ◌∙◌}
use Rattle.std.specs.Prelude.{codes}
use Rattle.depot_rows.specs.db_records.declared.key.Key.TheVariants as keys
use Rattle.depot_rows.specs.db_records.declared.table.TableId.TheVariants as tables
use Rattle.row_reads.proofs.FoundRows.{at_key}
use Rattle.row_reads.proofs.ViewsRead.{view_read}
use Rattle.row_reads.proofs.views.view_of.Goals as goal

pub returns : goal.returns
returns c = λ d sound has.
    let version = c.version-version in
    c.in_ok-view.ensures
    ∙ view_read d c.args.client.now _ sound
    (at_key tables.Domain d _ c.in_ok-key.key (keys.Domain (codes "client") c.args.client.now) version.result.now _ has refl
    (c.in_ok-key.ensures ∙ ap (λ name. keys.Domain (codes "client") name) c.as_bytes.ensures.value)
    (ap (λ v. v.rows) version.ensures.rows) c.get-row.ensures)
