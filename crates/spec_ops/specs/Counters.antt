-- The value of a counter as its row has it (Helix Core database schema reference, "db.counters").
use Rattle.std.specs.Prelude.{ℕ, Option, Some}
use Rattle.depot_rows.specs.db_records.declared.record.Record.{Record}
use Rattle.depot_rows.specs.db_records.declared.record.Record.TheVariants.{Counter}

-- 0 where there is no row
abbrev pub value_in : Option Record → ℕ
value_in (Some (Counter r)) = r.value
value_in _ = 0
