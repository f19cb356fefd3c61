use Rattle.std.proofs.Common.{refl, ap, ◌∙◌}
use Rattle.std.specs.Prelude.{option_map}
use Rattle.depot_rows.specs.depot_path.Path.{printed}
use Rattle.depot_rows.specs.db_records.declared.key.Key.TheVariants as keys
use Rattle.depot_rows.specs.db_records.declared.record.Record.TheVariants as records
use Rattle.depot_rows.specs.db_records.declared.table.TableId.TheVariants as tables
use Rattle.row_reads.proofs.FoundRows.{at_key}
use Rattle.opening_reads.proofs.Owing.{owed_read}
use Rattle.opening_reads.proofs.owed.owed_of.Goals as goal

pub returns : goal.returns
returns c = λ d has.
    let version = c.version-version in
    let client = c.args.client.now in
    let path = c.args.path.now in
    let from = c.args.from.now in
    ap (option_map records.Resolve) c.as_resolve-owed.ensures
    ∙ owed_read d client path from _ c.in_ok-key.ensures.read_again.0 c.in_ok-key.ensures.read_again.1
    (at_key tables.Resolve d _ c.in_ok-key.key (keys.Resolve client (printed path) (printed from)) version.result.now _ has refl c.in_ok-key.ensures.key
    (ap (λ v. v.rows) version.ensures.rows) c.get-row.ensures)
