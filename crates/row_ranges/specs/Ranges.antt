-- The keys of a table that begin with the same texts. The fields of keys and their order are those of the crate of records; which ranges
-- there are is this project's own choice.
use Rattle.std.specs.Prelude.{ℕ, Bool, true, false, ◌==◌, ◌&&◌, List, [], ◌∷◌}
use Rattle.table_store.specs.depot_path.Bytes.{same}
use Rattle.table_store.specs.db_records.declared.key.Key.{Key}
use Rattle.table_store.specs.db_records.declared.record.Record.{Record}
use Rattle.table_store.specs.db_records.declared.table.TableId.{TableId}
use Rattle.table_store.specs.db_records.declared.table.TableId.TheVariants as tables
use Rattle.table_store.specs.db_records.Key.{Field, Word, key_fields, key_table}
use Rattle.table_store.specs.db_records.Record.{key_of}
use Rattle.table_store.specs.db_records.Table.{table_number}
use Rattle.row_ranges.specs.declared.range.KeyRange.{KeyRange}
use Rattle.row_ranges.specs.declared.range.KeyRange.TheVariants.{Counters, Users, GroupUsers, Protections, Forms, HaveList, LabelledFiles, Integrations, ClientResolves, FileResolves, OpenedFiles, Changes, Revisions}

-- the table of the keys
abbrev pub range_table : KeyRange → TableId
range_table Counters = tables.Counter
range_table Users = tables.Group
range_table (GroupUsers group) = tables.Group
range_table Protections = tables.Protect
range_table (Forms kind) = tables.Domain
range_table (HaveList client) = tables.Have
range_table (LabelledFiles label) = tables.Label
range_table (Integrations to_file) = tables.Integed
range_table (ClientResolves client) = tables.Resolve
range_table (FileResolves client path) = tables.Resolve
range_table (OpenedFiles path) = tables.Working
range_table Changes = tables.Change
range_table (Revisions path) = tables.Rev

-- the first fields of the keys
abbrev pub range_texts : KeyRange → List (List ℕ)
range_texts Counters = []
range_texts Users = []
range_texts (GroupUsers group) = group ∷ []
range_texts Protections = []
range_texts (Forms kind) = kind ∷ []
range_texts (HaveList client) = client ∷ []
range_texts (LabelledFiles label) = label ∷ []
range_texts (Integrations to_file) = to_file ∷ []
range_texts (ClientResolves client) = client ∷ []
range_texts (FileResolves client path) = client ∷ path ∷ []
range_texts (OpenedFiles path) = path ∷ []
range_texts Changes = []
range_texts (Revisions path) = path ∷ []

-- the first fields are the texts
abbrev pub begins : List (List ℕ) → List Field → Bool
begins [] fields = true
begins (text ∷ texts) (Word field ∷ fields) = same text field && begins texts fields
begins (text ∷ texts) _ = false

-- the key is of the table, and begins with the texts
abbrev pub is_in : KeyRange → Key → Bool
is_in range key = (table_number (key_table key) == table_number (range_table range)) && begins (range_texts range) (key_fields key)

abbrev pub has_row : KeyRange → Record → Bool
has_row range row = is_in range (key_of row)
