-- What a command has gathered of its set. This project's own choice.
use Rattle.std.specs.Prelude.{◌≡◌, ◌==◌, ◌||◌, Bool, IsTrue, List, ◌++◌, map}
use Rattle.std.specs.List.{AllByRecursion, list_any}
use Rattle.depot_model.specs.db_records.Table.{table_number}
use Rattle.depot_model.specs.db_records.declared.table.TableId.{TableId}
use Rattle.depot_model.specs.Tables.{needs_table}
use Rattle.depot_model.specs.declared.request.Request.{Request}
use Rattle.locked_tables.specs.Held.{known_of, table_held}
use Rattle.locked_tables.specs.Known.{TableKnown}
use Rattle.locked_tables.specs.Taken.{rows_after}
use Rattle.locked_tables.specs.declared.held_table.HeldTable.{HeldTable}
use Rattle.table_changes.specs.Changed.{AllRows, rows_of}
use Rattle.table_locks.specs.declared.gathered.Gathered.{Gathered}

-- rows have those of a table as it was seen: after the places that were known then
abbrev pub HasSeen : AllRows → AllRows → TableKnown → Type 0
HasSeen start rows known = rows known.table ≡ rows_after start known.list known.table

-- it is this table
abbrev pub is_of : TableId → TableKnown → Bool
is_of table known = table_number known.table == table_number table

-- in the tables of a request's set the rows are those of others
abbrev pub HasSet : AllRows → AllRows → Request → Type 0
HasSet all rows request = (table : TableId) → IsTrue (needs_table request.command table) → rows table ≡ all table

module _ {N : Type 0} where
  -- so have they those of each held table
  abbrev pub AllHeldSeen : AllRows → AllRows → List (HeldTable N) → Type 0
  AllHeldSeen start rows held = AllByRecursion (λ (h : HeldTable N). HasSeen start rows (known_of h)) held

  -- the versions are those that were seen of each table
  pub record IsShown (start : AllRows) (g : Gathered N) : Type 0 where
    pub held : AllHeldSeen start (rows_of g.tables) g.held.items
    pub peeks : AllByRecursion (HasSeen start (rows_of g.tables)) g.peeks.items

  -- the tables whose locks are taken, and those that were looked at
  abbrev pub tables_held : Gathered N → List TableId
  tables_held g = map (λ (h : HeldTable N). table_held h) g.held.items

  abbrev pub tables_seen : Gathered N → List TableId
  tables_seen g = map (λ (known : TableKnown). known.table) g.peeks.items

  -- the locks of further tables are taken
  pub record AddsHeld (start : AllRows) (tables : List TableId) (old new : Gathered N) : Type 0 where
    pub shown : IsShown start new
    pub held : tables_held new ≡ tables_held old ++ tables
    pub peeks : new.peeks ≡ old.peeks

  -- further tables are looked at
  pub record AddsPeeks (start : AllRows) (tables : List TableId) (old new : Gathered N) : Type 0 where
    pub shown : IsShown start new
    pub held : new.held ≡ old.held
    pub peeks : tables_seen new ≡ tables_seen old ++ tables

  -- a table is among those that it has
  abbrev pub has_table : Gathered N → TableId → Bool
  has_table g table = list_any (λ (h : HeldTable N). is_of table (known_of h)) g.held.items || list_any (is_of table) g.peeks.items

  -- so is each of a request's set
  abbrev pub Covers : Gathered N → Request → Type 0
  Covers g request = (table : TableId) → IsTrue (needs_table request.command table) → IsTrue (has_table g table)
