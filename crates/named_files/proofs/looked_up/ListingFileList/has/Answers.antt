use Rattle.std.proofs.Common.{sym, ap, ◌∙◌}
use Rattle.std.specs.Prelude.{is_some}
use Rattle.depot_rows.specs.depot_path.Path.{is_path}
use Rattle.depot_rows.specs.db_records.declared.key.Key.{Key}
use Rattle.depot_rows.specs.table_changes.Changed.{rows_of}
use Rattle.depot_rows.specs.table_store.Rows.{TableRows, row_at}
use Rattle.depot_rows.specs.table_store.Tables.{version_of}
use Rattle.named_files.specs.Listed.{listing_table}
use Rattle.named_files.proofs.LookedUp.{row_found}
use Rattle.named_files.proofs.looked_up.ListingFileList.has.Goals as goal
use Rattle.row_reads.proofs.FormsRead.{told_some}

pub returns : goal.returns
returns c =
    let listing = c.args.self.now in
    let version = c.version-version in
    let table = c.table-table.ensures in
    let bytes = c.as_bytes-bytes.ensures in
    told_some c.get-row.result c.is_some-found.result c.is_some-found.ensures
    ∙ ap is_some c.get-row.ensures
    ∙ ap (λ (k : Key). is_some (row_at k version.result.now.rows)) c.in_ok-key.ensures
    ∙ row_found listing version.result.now (rows_of c.args.tables.now (listing_table listing))
    (ap (λ (v : TableRows). v.rows) (version.ensures.rows ∙ ap (version_of c.args.tables.now) c.table.ensures)) (version.ensures.table ∙ c.table.ensures) table.of_table
    c.args.file.now (ap is_path (sym bytes.value) ∙ bytes.path)
