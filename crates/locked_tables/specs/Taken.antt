-- The entries of the order, and the rows that they leave in the tables. This project's own choice.
use Rattle.std.specs.Prelude.{◌≡◌, ℕ, ◌+◌, ◌==◌, ◌≤◌, ◌<◌, ◌++◌, false, List, [], ◌∷◌, Some, if◌then◌else◌}
use mathlib.Core.List.{IsPrefix}
use Rattle.depot_model.specs.db_records.Table.{table_number}
use Rattle.depot_model.specs.db_records.declared.change.Change.{Change}
use Rattle.depot_model.specs.db_records.declared.table.TableId.{TableId}
use Rattle.depot_model.specs.Places.{Placed}
use Rattle.depot_model.specs.declared.order.Place.{Place}
use Rattle.order_words.specs.Lanes.{has_lane}
use Rattle.order_words.specs.Seats.{Run, lane_count}
use Rattle.table_changes.specs.Changed.{AllRows, changed_by}
use Rattle.locked_tables.specs.declared.taken.Taken.{Taken}

-- ---- lanes: that of a table is its number, then come that of the archive, that of the journal and those of the parties

abbrev pub archive_lane : ℕ
archive_lane = 11

abbrev pub journal_lane : ℕ
journal_lane = 12

abbrev pub party_lane : ℕ → ℕ
party_lane party = party + journal_lane

-- how many lanes there are beside those of the parties
abbrev pub depot_lanes : ℕ
depot_lanes = journal_lane + 1

-- the lanes that an entry touches
abbrev pub lanes_of : Taken → ℕ
lanes_of taken = taken.lanes

-- ---- places

abbrev pub place_of : Taken → Place
place_of taken = record { party = taken.request.party; number = taken.request.number; moment = taken.request.moment; fault = taken.fault }

-- its place with what it asked
abbrev pub placed_of : Taken → Placed
placed_of taken = record { request = Some taken.request; fault = taken.fault }

-- ---- parties

-- a party of a run: it has one of the sixteen numbers, and its lane is one of the run's
pub record IsParty (run : Run) (party : ℕ) : Type 0 where
  pub low : 1 ≤ party
  pub high : party ≤ 16
  pub lane : party_lane party < lane_count run

-- an entry is of a party of the run, and of the parties' lanes it touches that party's alone
pub record TouchesItsParty (run : Run) (taken : Taken) : Type 0 where
  pub party : IsParty run taken.request.party
  pub lanes : (party : ℕ) → 1 ≤ party → party ≤ 16 → has_lane taken.lanes (party_lane party) ≡ (taken.request.party == party)

-- those of the entries that a party asked for, in order
abbrev pub of_party : ℕ → List Taken → List Taken
of_party party [] = []
of_party party (taken ∷ order) = if taken.request.party == party then taken ∷ of_party party order else of_party party order

-- The order has one more entry. What the party knew begins the order before, with all that it had asked for, and of its own there is just that one more
pub record IsOwn (party : ℕ) (known before after : List Taken) : Type 0 where
  pub taken : Taken
  pub last : after ≡ before ++ taken ∷ []
  pub begins : IsPrefix known before
  pub earlier : of_party party before ≡ of_party party known
  pub own : of_party party after ≡ of_party party known ++ taken ∷ []

-- ---- rows

-- no other tables are changed than those whose lanes are touched
abbrev pub TouchesItsTables : Taken → Type 0
TouchesItsTables taken = (table : TableId) → has_lane taken.lanes (table_number table) ≡ false → (rows : AllRows) → changed_by rows taken.changes table ≡ rows table

-- the changes of all entries, one after another
abbrev pub changes_of : List Taken → List Change
changes_of [] = []
changes_of (taken ∷ order) = taken.changes ++ changes_of order

-- the rows after an entry: its changes leave them, in the tables whose lanes it touches
abbrev pub rows_behind : AllRows → Taken → AllRows
rows_behind rows taken table = if has_lane taken.lanes (table_number table) then changed_by rows taken.changes table else rows table

-- the rows after all entries, one after another
abbrev pub rows_after : AllRows → List Taken → AllRows
rows_after rows [] = rows
rows_after rows (taken ∷ order) = rows_after (rows_behind rows taken) order

-- ---- the archive

-- how much of the archive is used after all entries, one after another: each that touches the archive's lane says it anew
abbrev pub end_after : ℕ → List Taken → ℕ
end_after end [] = end
end_after end (taken ∷ order) = end_after (if has_lane taken.lanes archive_lane then taken.end else end) order
