-- The rows of tables as the rules see them (Helix Core database schema reference, "Tables"). That the place of a content in the archive is left
-- out, as rows tell a depot nothing of it, is this project's own choice.
use Rattle.std.specs.Prelude.{Option, option_map}
use Rattle.depot_rows.specs.db_records.Key.{key_table}
use Rattle.depot_rows.specs.db_records.declared.record.Record.{Record}
use Rattle.depot_rows.specs.table_store.Rows.{row_at}
use Rattle.depot_rows.specs.table_store.Tables.{version_of}
use Rattle.depot_rows.specs.table_store.declared.tables.Tables.{Tables}
use Rattle.depot_rows.specs.depot_model.Records.{unplaced}
use Rattle.depot_rows.specs.depot_model.Rules.{Rows}

-- a row without the place of its content
abbrev pub seen : Option Record → Option Record
seen row = option_map unplaced row

-- the row at a key, without its place
abbrev pub stored : Tables → Rows
stored tables key = seen (row_at key (version_of tables (key_table key)).rows)
