-- The values of counters (System Administrator Guide, "Journal files"; that they are of 64 bits is this project's own choice).
use Rattle.std.specs.Prelude.{◌≤◌}
use Rattle.depot_rows.specs.db_records.declared.record.Record.{Record}
use Rattle.depot_rows.specs.db_records.declared.record.Record.TheVariants.{Counter}
use Rattle.record_text.specs.Grammar.{largest_wide}

-- a text can say the value of the row, if it is that of a counter
abbrev pub IsWide : Record → Type 0
IsWide (Counter r) = r.value ≤ largest_wide
IsWide _ = Unit {0}
