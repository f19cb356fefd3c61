-- The rows of all tables, one table after another: their keys rise.
use Rattle.std.proofs.Common.{◌≡◌, ℕ, suc, ◌<◌, ◌≤◌, List, [], ◌∷◌, ◌++◌, sym, ap, subst, arith}
use Rattle.std.proofs.lemmas.Bool.Decides.{nat_tests}
use Rattle.std.specs.List.{flat_map}
use Rattle.std.specs.Ordering.{nat_cmp, ordering_then}
use Rattle.std.specs.declared.cmp.Ordering.{Ordering}
use Rattle.std.specs.declared.cmp.Ordering.TheVariants.{Greater}
use Rattle.depot_rows.specs.db_records.Key.{key_table}
use Rattle.depot_rows.specs.db_records.Record.{key_of, table_of}
use Rattle.depot_rows.specs.db_records.Table.{all_tables, table_number}
use Rattle.depot_rows.specs.db_records.declared.key.Key.{Key}
use Rattle.depot_rows.specs.db_records.declared.record.Record.{Record}
use Rattle.depot_rows.specs.db_records.declared.table.TableId.{TableId}
use Rattle.depot_rows.specs.table_changes.Changed.{AllRows}
use Rattle.depot_rows.specs.table_store.Rows.{AllAbove, AllOfTable, IsRising}
use Rattle.row_order.proofs.Order.{AllAbove-append}
use Rattle.checkpoint_file.specs.Tables.{AreTables}

-- tables whose numbers rise from this one on
abbrev pub RiseFrom : ℕ → List TableId → Type 0
RiseFrom n [] = Unit {0}
RiseFrom n (t ∷ tables) = (n ≤ table_number t) × RiseFrom (suc (table_number t)) tables

pub all_rise : RiseFrom 0 all_tables
all_rise = (omega arith, (omega arith, (omega arith, (omega arith, (omega arith, (omega arith, (omega arith, (omega arith, (omega arith, (omega arith, (omega arith, tt)))))))))))

higher : (m n : ℕ) → m < n → nat_cmp n m ≡ Greater
higher m n less = grind (arith, nat_tests)

greater_first : (x y : Ordering) → x ≡ Greater → ordering_then x y ≡ Greater
greater_first x y first = ap (λ (o : Ordering). ordering_then o y) first

module _ (key : Key) where
  above_table : (table : TableId) (rows : List Record) → table_number (key_table key) < table_number table → AllOfTable table rows → AllAbove key rows
  above_table table [] less of_table = tt
  above_table table (row ∷ rows) less of_table =
      let own : table_number (key_table key) < table_number (table_of row) = subst (λ (t : TableId). table_number (key_table key) < table_number t) (sym of_table.0) less in
      (greater_first _ (_) (higher (table_number (key_table key)) (table_number (table_of row)) own), above_table table rows less of_table.1)

module _ (rows : AllRows) (are : AreTables rows) where
  above_tables : (n : ℕ) (tables : List TableId) → RiseFrom n tables → (key : Key) → table_number (key_table key) < n → AllAbove key (flat_map rows tables)
  above_tables n [] rise key less = tt
  above_tables n (t ∷ tables) rise key less =
      let first : table_number (key_table key) < table_number t = let from = rise.0 in omega (arith, from, less) in
      AllAbove-append key (rows t) (flat_map rows tables) (above_table key t (rows t) first (are t).of_table)
      (above_tables (suc (table_number t)) tables rise.1 key (omega (arith, first)))

  rise_on : (n : ℕ) (tables : List TableId) → RiseFrom n tables → IsRising (flat_map rows tables) → (table : TableId) (front : List Record) → table_number table < n → AllOfTable table front → IsRising front
      → IsRising (front ++ flat_map rows tables)
  rise_on n tables rise up table [] less of_table front_up = up
  rise_on n tables rise up table (row ∷ front) less of_table front_up =
      let own : table_number (table_of row) < n = subst (λ (t : TableId). table_number t < n) (sym of_table.0) less in
      (AllAbove-append (key_of row) front (flat_map rows tables) front_up.0 (above_tables n tables rise (key_of row) own), rise_on n tables rise up table front less of_table.1 front_up.1)

  pub tables_rise : (n : ℕ) (tables : List TableId) → RiseFrom n tables → IsRising (flat_map rows tables)
  tables_rise n [] rise = tt
  tables_rise n (t ∷ tables) rise =
      rise_on (suc (table_number t)) tables rise.1 (tables_rise (suc (table_number t)) tables rise.1) t (rows t) (omega arith) (are t).of_table (are t).rising
