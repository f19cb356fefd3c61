-- Held tables that have learnt the whole order.
use Rattle.std.proofs.Common.{◌≡◌, Bool, true, false, List, [], ◌∷◌, refl, sym, ap, subst, ◌∙◌}
use Rattle.std.specs.Prelude.{◌||◌}
use Rattle.std.specs.List.{AllByRecursion, list_any}
use Rattle.depot_model.specs.db_records.declared.table.TableId.{TableId}
use Rattle.depot_model.specs.declared.request.Request.{Request}
use Rattle.locked_tables.specs.Held.{AllHaveLearnt, AllStill, known_of}
use Rattle.locked_tables.specs.Known.{IsStill, TableKnown}
use Rattle.locked_tables.specs.Taken.{rows_after}
use Rattle.locked_tables.specs.declared.held_table.HeldTable.{HeldTable}
use Rattle.locked_tables.specs.declared.taken.Taken.{Taken}
use Rattle.table_changes.specs.Changed.{AllRows, rows_of}
use Rattle.table_locks.specs.Confirmed.{tables_of}
use Rattle.table_locks.specs.Gathered.{AllHeldSeen, Covers, HasSeen, HasSet, IsShown, has_table, is_of}
use Rattle.table_locks.specs.declared.gathered.Gathered.{Gathered}
use Rattle.table_locks.proofs.Seen.{rows_now}

module _ {N : Type 0} (order : List Taken) where
  -- what was seen of them is so still
  pub shown_learnt : (start rows : AllRows) (olds news : List (HeldTable N)) → AllHaveLearnt order olds news → AllStill start order olds → AllHeldSeen start rows olds → AllHeldSeen start rows news
  shown_learnt start rows [] [] learnt still seen = tt
  shown_learnt start rows [] (n ∷ news) learnt still seen = absurd learnt
  shown_learnt start rows (o ∷ olds) [] learnt still seen = absurd learnt
  shown_learnt start rows (o ∷ olds) (n ∷ news) learnt still seen = (
    subst (HasSeen start rows) (sym learnt.0.known) (seen.0 ∙ sym still.0),
    shown_learnt start rows olds news learnt.1 still.1 seen.1,
  )

  -- they know the whole order
  pub known_learnt : (olds news : List (HeldTable N)) → AllHaveLearnt order olds news → AllByRecursion (λ (h : HeldTable N). (known_of h).list ≡ order) news
  known_learnt [] [] learnt = tt
  known_learnt [] (n ∷ news) learnt = absurd learnt
  known_learnt (o ∷ olds) [] learnt = absurd learnt
  known_learnt (o ∷ olds) (n ∷ news) learnt = (ap (λ (k : TableKnown). k.list) learnt.0.known, known_learnt olds news learnt.1)

  -- they are the same tables
  pub tables_learnt : (olds news : List (HeldTable N)) → AllHaveLearnt order olds news → tables_of news ≡ tables_of olds
  tables_learnt [] [] learnt = refl
  tables_learnt [] (n ∷ news) learnt = absurd learnt
  tables_learnt (o ∷ olds) [] learnt = absurd learnt
  tables_learnt (o ∷ olds) (n ∷ news) learnt = λ i. (learnt.0.known i).table ∷ tables_learnt olds news learnt.1 i

module _ {N : Type 0} (start : AllRows) (order : List Taken) (g : Gathered N) (shown : IsShown start g) (held : AllStill start order g.held.items) (peeks : AllByRecursion (IsStill start order) g.peeks.items) where
  table_now : (table : TableId) → has_table g table ≡ true → rows_of g.tables table ≡ rows_after start order table
  table_now table has = go (list_any (λ (h : HeldTable N). is_of table (known_of h)) g.held.items) refl has
    where
      go : (b : Bool) → list_any (λ (h : HeldTable N). is_of table (known_of h)) g.held.items ≡ b → (b || list_any (is_of table) g.peeks.items) ≡ true → rows_of g.tables table ≡ rows_after start order table
      go true is h = rows_now (λ (h : HeldTable N). known_of h) start (rows_of g.tables) order g.held.items shown.held held table is
      go false is h = rows_now (λ (k : TableKnown). k) start (rows_of g.tables) order g.peeks.items shown.peeks peeks table h

  -- the tables of the set are as they are after all places
  pub set_now : (request : Request) → Covers g request → HasSet (rows_after start order) (rows_of g.tables) request
  set_now request covers = λ table touched. table_now table (covers table touched)
