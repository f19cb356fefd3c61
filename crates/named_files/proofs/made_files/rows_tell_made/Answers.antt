use Rattle.std.proofs.Common.{◌≡◌, List, ap, subst}
use Rattle.depot_rows.specs.db_records.declared.record.Record.{Record}
use Rattle.depot_rows.specs.db_records.declared.table.TableId.{TableId}
use Rattle.depot_rows.specs.db_records.declared.table.TableId.TheVariants as table_ids
use Rattle.depot_rows.specs.table_changes.Changed.{rows_of}
use Rattle.depot_rows.specs.table_store.Rows.{AllOfTable, IsRising, TableRows}
use Rattle.named_files.proofs.RowsMade.{paths_told}
use Rattle.named_files.proofs.made_files.rows_tell_made.Goals as goal

pub returns : goal.returns
returns c = λ d n sound has.
    let rows = rows_of c.args.tables.now table_ids.Rev in
    let version = c.version-version in
    let table = c.table-table.ensures in
    let are : version.result.now.rows ≡ rows = ap (λ (v : TableRows). v.rows) version.ensures.rows in
    let P : TableId → Type 0 = λ t. AllOfTable t rows in
    let Q : List Record → Type 0 = λ rs. AllOfTable version.result.now.table rs in
    paths_told d sound rows (subst IsRising are table.rising) (subst P version.ensures.table (subst Q are table.of_table)) has n
