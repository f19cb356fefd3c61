use Rattle.std.proofs.Common.{refl, ap, ◌∙◌}
use Rattle.depot_rows.specs.depot_path.Path.{printed}
use Rattle.depot_rows.specs.db_records.declared.key.Key.TheVariants as keys
use Rattle.depot_rows.specs.db_records.declared.table.TableId.TheVariants as tables
use Rattle.row_reads.proofs.FoundRows.{at_key, label_read}
use Rattle.row_reads.proofs.files.label_of.Goals as goal

pub returns : goal.returns
returns c = λ d has.
    let version = c.version-version in
    c.label_rev-rev.ensures
    ∙ label_read d c.args.label.now c.args.path.now _ c.in_ok-key.ensures.read_again
    (at_key tables.Label d _ c.in_ok-key.key (keys.Label c.args.label.now (printed c.args.path.now)) version.result.now _ has refl c.in_ok-key.ensures.key (ap (λ v. v.rows) version.ensures.rows)
    c.get-row.ensures)
