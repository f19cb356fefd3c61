-- Tables whose locks are held. This project's own choice.
use Rattle.std.specs.Prelude.{◌≡◌, ℕ, zero, suc, true, false, List, [], ◌∷◌, Option, Some, None, IfSome}
use Rattle.std.specs.List.{AllByRecursion}
use Rattle.std.specs.Sync.Mutex.{mutex_guard_value}
use Rattle.depot_model.specs.db_records.Table.{table_number}
use Rattle.depot_model.specs.db_records.declared.change.Change.{Change}
use Rattle.depot_model.specs.db_records.declared.table.TableId.{TableId}
use Rattle.order_words.specs.Lanes.{has_lane, is_among}
use Rattle.table_changes.specs.Changed.{AllRows, changed_by}
use Rattle.table_changes.specs.table_store.Rows.{TableRows}
use Rattle.locked_tables.specs.Known.{IsStill, TableKnown}
use Rattle.locked_tables.specs.Taken.{rows_after}
use Rattle.locked_tables.specs.declared.held_table.HeldTable.{HeldTable}
use Rattle.locked_tables.specs.declared.taken.Taken.{Taken}

-- the lane of a held table that is changed
abbrev pub lane_next : Option TableRows → TableId → List ℕ → List ℕ
lane_next None table lanes = lanes
lane_next (Some next) table lanes = table_number table ∷ lanes

-- each lane of the bits is among these
abbrev pub AreAmong : ℕ → List ℕ → Type 0
AreAmong lanes checked = (lane : ℕ) → has_lane lanes lane ≡ true → is_among lane checked ≡ true

-- no other tables than those of these lanes are changed
abbrev pub OnlyChange : List Change → List ℕ → Type 0
OnlyChange changes lanes = (table : TableId) → is_among (table_number table) lanes ≡ false → (rows : AllRows) → changed_by rows changes table ≡ rows table

module _ {N : Type 0} where
  -- what is known behind the guard
  abbrev pub known_of : HeldTable N → TableKnown
  known_of held = mutex_guard_value held.guard

  abbrev pub table_held : HeldTable N → TableId
  table_held held = (known_of held).table

  -- a held table knows the whole order, and is otherwise the same
  pub record HasLearnt (order : List Taken) (old new : HeldTable N) : Type 0 where
    pub known : known_of new ≡ record { table = table_held old; list = order }
    pub next : new.next ≡ old.next

  -- so does each of them
  abbrev pub AllHaveLearnt : List Taken → List (HeldTable N) → List (HeldTable N) → Type 0
  AllHaveLearnt order [] [] = Unit {0}
  AllHaveLearnt order (old ∷ olds) (new ∷ news) = HasLearnt order old new × AllHaveLearnt order olds news
  AllHaveLearnt order _ _ = ⊥

  -- so does each of them from an index on, and those before it are the same
  abbrev pub HaveLearntFrom : ℕ → List Taken → List (HeldTable N) → List (HeldTable N) → Type 0
  HaveLearntFrom zero order olds news = AllHaveLearnt order olds news
  HaveLearntFrom (suc from) order [] [] = Unit {0}
  HaveLearntFrom (suc from) order (old ∷ olds) (new ∷ news) = (new ≡ old) × HaveLearntFrom from order olds news
  HaveLearntFrom (suc from) order _ _ = ⊥

  -- each is after all entries as it was after those that it knew
  abbrev pub AllStill : AllRows → List Taken → List (HeldTable N) → Type 0
  AllStill rows order held = AllByRecursion (λ h. IsStill rows order (known_of h)) held

  -- the version that is to follow, where there is one, is the table after the changes
  abbrev pub IsNext : AllRows → List Change → HeldTable N → Type 0
  IsNext rows changes held =
      IfSome held.next (λ v. v ≡ record { table = table_held held; rows = changed_by (rows_after rows (known_of held).list) changes (table_held held) })

  abbrev pub AllNext : AllRows → List Change → List (HeldTable N) → Type 0
  AllNext rows changes held = AllByRecursion (IsNext rows changes) held

  -- the lanes of the held tables that are changed
  abbrev pub lanes_next : List (HeldTable N) → List ℕ
  lanes_next [] = []
  lanes_next (h ∷ held) = lane_next h.next (table_held h) (lanes_next held)
