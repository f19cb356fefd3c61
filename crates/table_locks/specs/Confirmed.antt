-- What a command has once its set is confirmed. This project's own choice.
use Rattle.std.specs.Prelude.{◌≡◌, List, map}
use Rattle.std.specs.List.{AllByRecursion}
use Rattle.depot_model.specs.db_records.declared.table.TableId.{TableId}
use Rattle.locked_tables.specs.Held.{known_of, table_held}
use Rattle.locked_tables.specs.declared.held_table.HeldTable.{HeldTable}
use Rattle.locked_tables.specs.declared.taken.Taken.{Taken}
use Rattle.table_changes.specs.Changed.{AllRows, rows_of}
use Rattle.table_locks.specs.Gathered.{AllHeldSeen}
use Rattle.table_locks.specs.declared.confirmed.Confirmed.{Confirmed}
use Rattle.table_locks.specs.declared.gathered.Gathered.{Gathered}

module _ {N : Type 0} where
  -- the tables that are held, in order
  abbrev pub tables_of : List (HeldTable N) → List TableId
  tables_of held = map (λ (h : HeldTable N). table_held h) held

  -- the tables that were held are held still, and know the whole order; the versions are those that were gathered
  pub record IsConfirmed (start : AllRows) (order : List Taken) (gathered : Gathered N) (confirmed : Confirmed N) : Type 0 where
    pub held : tables_of confirmed.held.items ≡ tables_of gathered.held.items
    pub known : AllByRecursion (λ (h : HeldTable N). (known_of h).list ≡ order) confirmed.held.items
    pub shown : AllHeldSeen start (rows_of confirmed.tables) confirmed.held.items
    pub tables : confirmed.tables ≡ gathered.tables
