use Rattle.std.proofs.Common.{◌≡◌, ◌<◌, ◌≤◌, ◌-◌, ℕ, [], None}
use Rattle.depot_rows.specs.db_records.declared.key.Key.TheVariants as keys
use Rattle.depot_rows.specs.db_records.declared.table.TableId.TheVariants as table_ids
use Rattle.depot_rows.specs.table_changes.Changed.{rows_of}
use Rattle.depot_rows.specs.table_store.Rows.{row_at, rows_from}
use Rattle.change_lists.proofs.numbers.newest_number.Given as goal

abbrev pub invariant-loop-low : goal.invariant-loop-low
invariant-loop-low l = record {
  order : l.low ≤ l.high;
  reached : 0 < l.low → rows_from (keys.Change l.low) (rows_of l.tables table_ids.Change) ≡ [] → ⊥;
  above : (n : ℕ) → l.high < n → n ≤ 4294967295 → row_at (keys.Change n) (rows_of l.tables table_ids.Change) ≡ None;
}

abbrev pub decreases-loop-low : goal.decreases-loop-low
decreases-loop-low l = l.high - l.low
