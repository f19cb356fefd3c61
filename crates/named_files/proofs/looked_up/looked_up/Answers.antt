use Rattle.std.proofs.Common.{ap, ◌∙◌}
use Rattle.depot_rows.specs.table_changes.Changed.{rows_of}
use Rattle.depot_rows.specs.table_store.Rows.{TableRows}
use Rattle.depot_rows.specs.table_store.Tables.{version_of}
use Rattle.named_files.specs.Listed.{listed, listing_table}
use Rattle.named_files.proofs.LookedUp.{kept_same, listed_rows_rise}
use Rattle.named_files.proofs.looked_up.looked_up.Goals as goal

pub returns : goal.returns
returns c = λ test passes.
    let listing = c.args.listing.now in
    let rows = rows_of c.args.tables.now (listing_table listing) in
    let version = c.version-version in
    let table = c.table-table.ensures in
    kept_same test c.in_ok-files.files c.in_ok-paths.paths (listed listing rows) c.in_ok-paths.ensures.rise
    (listed_rows_rise listing version.result.now rows
    (ap (λ (v : TableRows). v.rows) (version.ensures.rows ∙ ap (version_of c.args.tables.now) c.table.ensures)) (version.ensures.table ∙ c.table.ensures) table.of_table
    table.rising)
    (λ file is. c.in_ok-paths.ensures.exactly file) (λ file is e. c.in_ok-files.ensures file is (passes file e))
