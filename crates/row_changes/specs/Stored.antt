-- The rows of all tables as a look-up by key. That no two rows of a table have one key is the database's (Helix Core database schema reference).
use Rattle.std.specs.Prelude.{◌≡◌, Option, Some, None}
use Rattle.depot_rows.specs.db_records.Record.{key_of}
use Rattle.depot_rows.specs.db_records.declared.key.Key.{Key}
use Rattle.depot_rows.specs.db_records.declared.record.Record.{Record}

-- the row, where there is one, has the key
abbrev pub HasKey : Option Record → Key → Type 0
HasKey None key = Unit {0}
HasKey (Some row) key = key_of row ≡ key
