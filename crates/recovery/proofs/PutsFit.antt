-- Rows that are put with rising keys fit where there are none.
use Rattle.std.proofs.Common.{◌≡◌, Bool, true, false, List, [], ◌∷◌, refl, sym, subst}
use Rattle.std.specs.Prelude.{◌==◌, if◌then◌else◌}
use Rattle.std.specs.List.{AllByRecursion}
use Rattle.std.specs.declared.cmp.Ordering.TheVariants.{Less}
use Rattle.depot_rows.specs.db_records.declared.change.Change.{Change}
use Rattle.depot_rows.specs.db_records.declared.change.Op.{Op}
use Rattle.depot_rows.specs.db_records.declared.change.Op.TheVariants.{Put}
use Rattle.depot_rows.specs.db_records.declared.key.Key.{Key}
use Rattle.depot_rows.specs.db_records.declared.table.TableId.{TableId}
use Rattle.depot_rows.specs.db_records.Key.{key_cmp}
use Rattle.depot_rows.specs.db_records.Record.{key_of, table_of}
use Rattle.depot_rows.specs.db_records.Table.{table_number}
use Rattle.depot_rows.specs.table_store.Rows.{AllAbove, AllBelow, FitsAt, IsRising, changed_once, row_at}
use Rattle.depot_rows.proofs.table_store.Order.{turned_greater}
use Rattle.row_order.proofs.Order.{AllBelow-append, row_at-below, row_behind}
use Rattle.depot_rows.specs.table_changes.Changed.{AllRows, FitsIn, AllFitIn, changed_in, no_rows}
use Rattle.recovery.specs.Holding.{ArePuts, rows_put}

-- all rows are below a key
abbrev AllRowsBelow : AllRows → Key → Type 0
AllRowsBelow rows key = (table : TableId) → AllBelow key (rows table)

abbrev ArePutsOf : List Change → Type 0
ArePutsOf changes = AllByRecursion (λ (c : Change). c.op ≡ Put) changes

abbrev AreAbove : AllRows → List Change → Type 0
AreAbove rows changes = AllByRecursion (λ (c : Change). AllRowsBelow rows (key_of c.row)) changes

fits_put : (rows : AllRows) (change : Change) → change.op ≡ Put → AllRowsBelow rows (key_of change.row) → FitsIn rows change
fits_put rows change put below = record {
  of_table = refl;
  at_key = subst (λ (op : Op). FitsAt op change.row (row_at (key_of change.row) (rows (table_of change.row)))) (sym put) (row_at-below (key_of change.row) (rows (table_of change.row)) (below (table_of change.row)));
}

below_more : (rows : AllRows) (change : Change) (key : Key) → change.op ≡ Put → AllRowsBelow rows (key_of change.row) → key_cmp (key_of change.row) key ≡ Less → AllRowsBelow rows key → AllRowsBelow (changed_in rows change) key
below_more rows change key put below less all table = pick (table_number table == table_number (table_of change.row))
  where
    pick : (b : Bool) → AllBelow key (if b then changed_once (rows table) change else rows table)
    pick true = subst (AllBelow key) (sym (row_behind (rows table) change (below table) put)) (AllBelow-append key (rows table) (change.row ∷ []) (all table) (less, tt))
    pick false = all table

above_more : (rows : AllRows) (change : Change) (changes : List Change) → change.op ≡ Put → AllRowsBelow rows (key_of change.row) → AllAbove (key_of change.row) (rows_put changes) → AreAbove rows changes → AreAbove (changed_in rows change) changes
above_more rows change [] put below rising above = tt
above_more rows change (c ∷ changes) put below rising above =
    (below_more rows change (key_of c.row) put below (turned_greater (key_of c.row) (key_of change.row) rising.0) above.0, above_more rows change changes put below rising.1 above.1)

fit_above : (rows : AllRows) (changes : List Change) → ArePutsOf changes → IsRising (rows_put changes) → AreAbove rows changes → AllFitIn rows changes
fit_above rows [] put rising above = tt
fit_above rows (c ∷ changes) put rising above =
    (fits_put rows c put.0 above.0, fit_above (changed_in rows c) changes put.1 rising.1 (above_more rows c changes put.0 above.0 rising.0 above.1))

above_none : (changes : List Change) → AreAbove no_rows changes
above_none [] = tt
above_none (c ∷ changes) = ((λ table. tt), above_none changes)

pub puts_fit : (puts : List Change) → ArePuts puts → AllFitIn no_rows puts
puts_fit puts are = fit_above no_rows puts are.all_put are.rising (above_none puts)
