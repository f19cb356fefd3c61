use Rattle.std.proofs.Common.{ap}
use Rattle.depot_rows.specs.table_store.Rows.{TableRows}
use Rattle.shelf_ops.proofs.Kept.{kept_told}
use Rattle.shelf_ops.proofs.keeping.rows_tell_kept.Goals as goal

pub returns : goal.returns
returns c = λ d n sound has.
    let version = c.version-version in
    let table = c.table-table.ensures in
    kept_told d sound n version.result.now _ (ap (λ (v : TableRows). v.rows) version.ensures.rows) version.ensures.table table.of_table table.rising has
