-- Rows as they are seen over others: a touched key has the row that it was given, and any other the one that it had. This project's own choice.
use Rattle.std.specs.Prelude.{◌≡◌, Bool, true, List, Option, unwrap_or}
use Rattle.std.specs.BTreeMap.{BTreeMap, get}
use Rattle.std.specs.List.{list_all}
use Rattle.std.specs.Option.{option_map_or}
use Rattle.depot_rows.specs.db_records.Key.{key_cmp}
use Rattle.depot_rows.specs.db_records.Record.{key_of}
use Rattle.depot_rows.specs.db_records.declared.key.Key.{Key}
use Rattle.depot_rows.specs.db_records.declared.record.Record.{Record}
use Rattle.depot_rows.specs.depot_model.Records.{is_at}
use Rattle.depot_rows.specs.depot_model.Rules.{Rows}

-- each touched key with the row that it has, or with none
abbrev pub Touched : Type 0
Touched = BTreeMap Key (Option Record)

abbrev pub Entries : Type 0
Entries = List (Key × Option Record)

-- the row that an entry has, if any, has the entry's key
abbrev pub is_keyed : Key × Option Record → Bool
is_keyed entry = option_map_or (λ row. is_at entry.0 (key_of row)) entry.1 true

abbrev pub all_keyed : Entries → Bool
all_keyed entries = list_all is_keyed entries

abbrev pub seen : Touched → Rows → Rows
seen touched rows key = unwrap_or (get key_cmp touched key) (rows key)

-- over the rows, what is seen becomes what is made of it
abbrev pub Becomes : Rows → (Rows → Rows) → Touched → Touched → Type 0
Becomes rows made old new = (key : Key) → seen new rows key ≡ made (seen old rows) key
