use Rattle.std.proofs.Common.{refl, ap, ◌∙◌}
use Rattle.depot_rows.specs.depot_path.Path.{printed}
use Rattle.depot_rows.specs.db_records.declared.key.Key.TheVariants as keys
use Rattle.depot_rows.specs.db_records.declared.table.TableId.TheVariants as tables
use Rattle.row_reads.proofs.FoundRows.{at_key, opened_read}
use Rattle.row_reads.proofs.files.opened_of.Goals as goal

pub returns : goal.returns
returns c = λ d has.
    let version = c.version-version in
    c.in_ok-copy.ensures
    ∙ opened_read d c.args.client.now c.args.path.now _ c.in_ok-key.ensures.read_again
    (at_key tables.Working d _ c.in_ok-key.key (keys.Working (printed c.args.path.now) c.args.client.now) version.result.now _ has refl c.in_ok-key.ensures.key
    (ap (λ v. v.rows) version.ensures.rows) c.get-row.ensures)
