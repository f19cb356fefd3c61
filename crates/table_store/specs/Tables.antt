-- The versions of all tables, and the end of the archive. Which tables there are is the choice of the crate of records.
use Rattle.std.specs.Prelude.{◌≡◌, []}
use Rattle.db_records.specs.declared.table.TableId.{TableId}
use Rattle.db_records.specs.declared.table.TableId.TheVariants.{Counter, Group, Protect, Domain, Have, Label, Integed, Resolve, Working, Change, Rev}
use Rattle.table_store.specs.Rows.{TableRows}
use Rattle.table_store.specs.declared.tables.Tables.{Tables}

-- the version of a table
abbrev pub version_of : Tables → TableId → TableRows
version_of tables Counter = tables.counter
version_of tables Group = tables.group
version_of tables Protect = tables.protect
version_of tables Domain = tables.domain
version_of tables Have = tables.have
version_of tables Label = tables.label
version_of tables Integed = tables.integed
version_of tables Resolve = tables.resolve
version_of tables Working = tables.working
version_of tables Change = tables.change
version_of tables Rev = tables.rev

-- no table has rows, and the archive has no bytes
abbrev pub AllEmpty : Tables → Type 0
AllEmpty tables = ((table : TableId) → version_of tables table ≡ record { table = table; rows = [] }) × (tables.archive_end ≡ 0)
