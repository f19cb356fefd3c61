-- The tables that a command holds once its changes are prepared. This project's own choice.
use Rattle.std.specs.Prelude.{◌≡◌, ◌==◌, ℕ, zero, suc, Bool, List, [], ◌∷◌, Option, Some, None, if◌then◌else◌}
use Rattle.std.specs.List.{list_all, list_any}
use Rattle.depot_model.specs.db_records.Record.{table_of}
use Rattle.depot_model.specs.db_records.Table.{table_number}
use Rattle.depot_model.specs.db_records.declared.change.Change.{Change}
use Rattle.depot_model.specs.db_records.declared.table.TableId.{TableId}
use Rattle.locked_tables.specs.Held.{AllNext, OnlyChange, known_of, lanes_next, table_held}
use Rattle.locked_tables.specs.declared.held_table.HeldTable.{HeldTable}
use Rattle.order_words.specs.Lanes.{is_among}
use Rattle.table_changes.specs.Changed.{AllRows}
use Rattle.table_changes.specs.table_store.Rows.{TableRows}
use Rattle.table_locks.specs.Gathered.{is_of}

-- one of the changes is of a row of the table
abbrev pub is_changed : List Change → TableId → Bool
is_changed changes table = list_any (λ (change : Change). table_number (table_of change.row) == table_number table) changes

-- the version of a table after changes, where one of them is of it
abbrev pub next_of : AllRows → List Change → TableId → Option TableRows
next_of after changes table = if is_changed changes table then Some (record { table = table; rows = after table }) else None

module _ {N : Type 0} where
  -- a table is among those that are held
  abbrev pub is_held : List (HeldTable N) → TableId → Bool
  is_held held table = list_any (λ (h : HeldTable N). is_of table (known_of h)) held

  -- so is the table of each change
  abbrev pub are_held : List (HeldTable N) → List Change → Bool
  are_held held changes = list_all (λ (change : Change). is_held held (table_of change.row)) changes

  -- a held table is as it was, with the version that is to follow
  pub record Follows (after : AllRows) (changes : List Change) (old new : HeldTable N) : Type 0 where
    pub known : known_of new ≡ known_of old
    pub next : new.next ≡ next_of after changes (table_held old)

  -- so is each of them
  abbrev pub AllFollow : AllRows → List Change → List (HeldTable N) → List (HeldTable N) → Type 0
  AllFollow after changes [] [] = Unit {0}
  AllFollow after changes (old ∷ olds) (new ∷ news) = Follows after changes old new × AllFollow after changes olds news
  AllFollow after changes _ _ = ⊥

  -- so is each of them from an index on, and those before it are the same
  abbrev pub FollowFrom : ℕ → AllRows → List Change → List (HeldTable N) → List (HeldTable N) → Type 0
  FollowFrom zero after changes olds news = AllFollow after changes olds news
  FollowFrom (suc from) after changes [] [] = Unit {0}
  FollowFrom (suc from) after changes (old ∷ olds) (new ∷ news) = (new ≡ old) × FollowFrom from after changes olds news
  FollowFrom (suc from) after changes _ _ = ⊥

  -- The versions that are to follow are those after the changes. They are of the tables of which a row changes, and no other table changes
  pub record IsPrepared (start : AllRows) (changes : List Change) (held : List (HeldTable N)) : Type 0 where
    pub next : AllNext start changes held
    pub lanes : (table : TableId) → is_among (table_number table) (lanes_next held) ≡ is_changed changes table
    pub only : OnlyChange changes (lanes_next held)
