-- Rows of a list whose keys rise, and those that are found by their keys.
use Rattle.std.proofs.Common.{◌≡◌, Bool, true, false, cond, List, [], ◌∷◌, Some, None, refl, sym, ap, ◌∙◌}
use Rattle.std.specs.Prelude.{◌&&◌, is_some}
use Rattle.std.specs.List.{list_all}
use Rattle.std.specs.Ordering.{is_eq}
use Rattle.std.specs.declared.cmp.Ordering.{Ordering}
use Rattle.std.specs.declared.cmp.Ordering.TheVariants.{Less, Equal, Greater}
use Rattle.std.proofs.lemmas.Bool.{true≢false, and_parts}
use Rattle.depot_rows.specs.db_records.declared.key.Key.{Key}
use Rattle.depot_rows.specs.db_records.declared.record.Record.{Record}
use Rattle.depot_rows.specs.db_records.declared.table.TableId.{TableId}
use Rattle.depot_rows.specs.db_records.Key.{key_cmp}
use Rattle.depot_rows.specs.db_records.Record.{key_of, table_of}
use Rattle.depot_rows.proofs.db_records.Order.{keys_equal}
use Rattle.depot_rows.specs.table_store.Rows.{is_at, row_at, AllAbove, IsRising, AllOfTable}
use Rattle.row_order.proofs.Order.{row_at-above}

pub eq_is : (o : Ordering) → is_eq o ≡ true → o ≡ Equal
eq_is Less e = absurd cc
eq_is Equal e = refl
eq_is Greater e = absurd cc

pub at_key : (key : Key) (row : Record) → is_at key row ≡ true → key_of row ≡ key
at_key key row e = (keys_equal (key_of row) key).0 (eq_is (key_cmp (key_of row) key) e)

pub at_own : (row : Record) → is_at (key_of row) row ≡ true
at_own row = ap is_eq ((keys_equal (key_of row) (key_of row)).1 refl)

-- what is found has the key
pub found_key : (key : Key) (rows : List Record) (row : Record) → row_at key rows ≡ Some row → key_of row ≡ key
found_key key [] row e = absurd cc
found_key key (x ∷ rows) row e = go (is_at key x) refl e (λ f. found_key key rows row f)
  where
    go : (b : Bool) → is_at key x ≡ b → cond b (Some x) (row_at key rows) ≡ Some row → (row_at key rows ≡ Some row → key_of row ≡ key) → key_of row ≡ key
    go true h f rest = let same : x ≡ row = cc in ap key_of (sym same) ∙ at_key key x h
    go false h f rest = rest f

-- what holds of all rows holds of what is found
pub found_passes : (test : Record → Bool) (key : Key) (rows : List Record) (row : Record) → list_all test rows ≡ true → row_at key rows ≡ Some row → test row ≡ true
found_passes test key [] row all e = absurd cc
found_passes test key (x ∷ rows) row all e = go (is_at key x) e (λ f. found_passes test key rows row (and_parts (test x) (list_all test rows) all).1 f)
  where
    go : (b : Bool) → cond b (Some x) (row_at key rows) ≡ Some row → (row_at key rows ≡ Some row → test row ≡ true) → test row ≡ true
    go true f rest = let same : x ≡ row = cc in ap test (sym same) ∙ (and_parts (test x) (list_all test rows) all).0
    go false f rest = rest f

-- a row is found behind another
pub found_behind : (key : Key) (x row : Record) (rows : List Record) → AllAbove (key_of x) rows → row_at key rows ≡ Some row → row_at key (x ∷ rows) ≡ Some row
found_behind key x row rows above e = go (is_at key x) refl
  where
    go : (b : Bool) → is_at key x ≡ b → cond b (Some x) (row_at key rows) ≡ Some row
    go true h =
        let none : row_at (key_of x) rows ≡ None = row_at-above (key_of x) rows above in
        let here : row_at key rows ≡ row_at (key_of x) rows = ap (λ k. row_at k rows) (sym (at_key key x h)) in
        absurd (clash (sym (here ∙ none) ∙ e))
      where
        clash : None ≡ Some row → ⊥
        clash f = true≢false (ap is_some (sym f))
    go false h = e

-- what holds of all that is found holds of all rows
pub all_from_found : (test : Record → Bool) (table : TableId) (rows : List Record) → IsRising rows → AllOfTable table rows
    → ((row : Record) → row_at (key_of row) rows ≡ Some row → table_of row ≡ table → test row ≡ true) → list_all test rows ≡ true
all_from_found test table [] up of each = refl
all_from_found test table (x ∷ rows) up of each =
    let here : row_at (key_of x) (x ∷ rows) ≡ Some x = ap (λ b. cond b (Some x) (row_at (key_of x) rows)) (at_own x) in
    λ i. each x here of.0 i && all_from_found test table rows up.1 of.1 (λ row e t. each row (found_behind (key_of row) x row rows up.0 e) t) i

-- a row that is found is of the table
pub of_table : (table : TableId) (key : Key) (row : Record) (rows : List Record) → AllOfTable table rows → row_at key rows ≡ Some row → table_of row ≡ table
of_table table key row [] of e = absurd cc
of_table table key row (x ∷ rows) of e = go (is_at key x) e (λ f. of_table table key row rows of.1 f)
  where
    go : (b : Bool) → cond b (Some x) (row_at key rows) ≡ Some row → (row_at key rows ≡ Some row → table_of row ≡ table) → table_of row ≡ table
    go true f rest = let same : x ≡ row = cc in ap table_of (sym same) ∙ of.0
    go false f rest = rest f
