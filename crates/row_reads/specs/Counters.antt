-- The counters, as rows have them and as a depot has them (Helix Core database schema reference, "db.counters").
use Rattle.std.specs.Prelude.{ℕ, List, [], ◌∷◌, flat_map, filter_map, codes, option_map}
use Rattle.depot_rows.specs.db_records.declared.record.Record.{Record}
use Rattle.depot_rows.specs.db_records.declared.record.Record.TheVariants.{Counter}
use Rattle.depot_rows.specs.db_records.declared.rows.CounterRecord.{CounterRecord}
use Rattle.depot_rows.specs.depot_model.Deeds.{Deed}
use Rattle.depot_rows.specs.depot_model.Latest.{keys_of, count_name}
use Rattle.depot_rows.specs.depot_model.Sorted.{inserted}
use Rattle.depot_rows.specs.depot_model.Steps.Counters.{counter_of}

abbrev pub counter_in : Record → List CounterRecord
counter_in (Counter r) = r ∷ []
counter_in _ = []

abbrev pub counters_in : List Record → List CounterRecord
counters_in rows = flat_map counter_in rows

-- a counter with its value
abbrev pub valued : List ℕ → ℕ → CounterRecord
valued name value = record { name = name; value = value }

-- those that have values, in the order of their names
abbrev pub counters_of : List Deed → List CounterRecord
counters_of d = filter_map (λ name. option_map (valued name) (counter_of d name)) (inserted (codes "change") (keys_of count_name d))
