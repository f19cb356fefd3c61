use Rattle.std.proofs.Common.{◌≡◌, List, ap, subst}
use Rattle.depot_rows.specs.db_records.declared.record.Record.{Record}
use Rattle.depot_rows.specs.db_records.declared.table.TableId.{TableId}
use Rattle.depot_rows.specs.db_records.declared.table.TableId.TheVariants as table_ids
use Rattle.depot_rows.specs.table_changes.Changed.{rows_of}
use Rattle.depot_rows.specs.table_store.Rows.{AllOfTable, IsRising, TableRows}
use Rattle.change_lists.proofs.RowsTell.{listed_told, made_told}
use Rattle.change_lists.proofs.files.rows_tell_made.Goals as goal

pub returns-clause-made : goal.returns-clause-made
returns-clause-made c = λ d caller asker sound asked has n.
    let rows = rows_of c.args.tables.now table_ids.Rev in
    let version = c.version-version in
    let table = c.table-table.ensures in
    let are : version.result.now.rows ≡ rows = ap (λ (v : TableRows). v.rows) version.ensures.rows in
    let P : TableId → Type 0 = λ t. AllOfTable t rows in
    let Q : List Record → Type 0 = λ rs. AllOfTable version.result.now.table rs in
    made_told d sound rows (subst IsRising are table.rising) (subst P version.ensures.table (subst Q are table.of_table)) has n caller asker asked

pub returns-clause-listed : goal.returns-clause-listed
returns-clause-listed c = λ d caller asker sound asked has n.
    let rows = rows_of c.args.tables.now table_ids.Rev in
    let version = c.version-version in
    let table = c.table-table.ensures in
    let are : version.result.now.rows ≡ rows = ap (λ (v : TableRows). v.rows) version.ensures.rows in
    let P : TableId → Type 0 = λ t. AllOfTable t rows in
    let Q : List Record → Type 0 = λ rs. AllOfTable version.result.now.table rs in
    listed_told d sound rows (subst IsRising are table.rising) (subst P version.ensures.table (subst Q are table.of_table)) has n caller asker asked
