use Rattle.std.proofs.Common.{ap, ◌∙◌}
use Rattle.depot_rows.specs.table_changes.Changed.{rows_of}
use Rattle.depot_rows.specs.table_store.Rows.{TableRows}
use Rattle.depot_rows.specs.table_store.Tables.{version_of}
use Rattle.named_files.specs.Listed.{listing_table}
use Rattle.named_files.proofs.Joining.{listed_joined}
use Rattle.named_files.proofs.choosing.files_join.Goals as goal

pub returns : goal.returns
returns c = λ beginnings apart.
    let listing = c.args.listing.now in
    let version = c.version-version in
    let table = c.table-table.ensures in
    listed_joined listing version.result.now (rows_of c.args.tables.now (listing_table listing))
    (ap (λ (v : TableRows). v.rows) (version.ensures.rows ∙ ap (version_of c.args.tables.now) c.table.ensures)) (version.ensures.table ∙ c.table.ensures) table.of_table
    table.rising beginnings apart
