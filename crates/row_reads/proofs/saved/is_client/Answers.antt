use Rattle.std.proofs.Common.{refl, ap, ◌∙◌}
use Rattle.std.specs.Prelude.{codes}
use Rattle.depot_rows.specs.db_records.declared.key.Key.TheVariants as keys
use Rattle.depot_rows.specs.db_records.declared.table.TableId.TheVariants as tables
use Rattle.depot_rows.specs.depot_model.Deeds.{ClientForm}
use Rattle.row_reads.proofs.FormsRead.{form_there, told_some}
use Rattle.row_reads.proofs.FoundRows.{at_key}
use Rattle.row_reads.proofs.saved.is_client.Goals as goal

pub returns : goal.returns
returns c = λ d has.
    let name = c.args.name.now in
    told_some c.get-row.result c.is_some-found.result c.is_some-found.ensures
    ∙ form_there ClientForm d name _
    (at_key tables.Domain d _ c.in_ok-key.key (keys.Domain (codes "client") name) c.version.result.now _ has refl
    (c.in_ok-key.ensures ∙ ap (λ n. keys.Domain (codes "client") n) c.as_bytes.ensures.value) (ap (λ v. v.rows) c.version.ensures.rows) c.get-row.ensures)
