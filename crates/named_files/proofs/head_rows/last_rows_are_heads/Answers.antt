use Rattle.std.proofs.Common.{◌≡◌, List, ap, subst, ◌∙◌}
use Rattle.std.specs.List.{All}
use Rattle.depot_rows.specs.db_records.declared.record.Record.{Record}
use Rattle.depot_rows.specs.table_changes.Changed.{rows_of}
use Rattle.depot_rows.specs.table_store.Rows.{TableRows}
use Rattle.depot_rows.specs.table_store.Tables.{version_of}
use Rattle.named_files.specs.HeadRows.{IsHead, heads_in_turn}
use Rattle.named_files.specs.Listed.{listing_table}
use Rattle.named_files.proofs.HeadRows.{turn_heads}
use Rattle.named_files.proofs.head_rows.last_rows_are_heads.Goals as goal

pub returns : goal.returns
returns c = λ beginnings.
    let listing = c.args.listing.now in
    let version = c.version-version in
    let rows : List Record = version.result.now.rows in
    let are : rows ≡ rows_of c.args.tables.now (listing_table listing) = ap (λ (v : TableRows). v.rows) (version.ensures.rows ∙ ap (version_of c.args.tables.now) c.table.ensures) in
    subst (λ (r : List Record). All (IsHead r) (heads_in_turn listing r beginnings)) are (turn_heads listing rows c.table-table.ensures.rising beginnings)
