use Rattle.std.proofs.Common.{ap}
use Rattle.depot_rows.specs.table_changes.Changed.{rows_of}
use Rattle.depot_rows.specs.db_records.declared.table.TableId.TheVariants as tables
use Rattle.depot_rows.specs.table_store.Rows.{TableRows}
use Rattle.named_files.specs.declared.listing.Listing.TheVariants.{Submitted}
use Rattle.named_files.proofs.Told.{files_told}
use Rattle.history_query.proofs.leaping.rows_list_files.Goals as goal

pub returns : goal.returns
returns c = λ d sound has.
    let version = c.version-version in
    let table = c.table-table.ensures in
    files_told Submitted version.result.now (rows_of c.args.tables.now tables.Rev) (ap (λ (v : TableRows). v.rows) version.ensures.rows) version.ensures.table
    table.of_table table.rising d sound has
