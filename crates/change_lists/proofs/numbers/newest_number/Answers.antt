use Rattle.std.proofs.Common.{◌<◌, ◌≤◌, ◌-◌, ◌/◌, ℕ, ap, sym, ◌∙◌, arith}
use Rattle.depot_rows.specs.db_records.declared.key.Key.TheVariants as keys
use Rattle.depot_rows.specs.db_records.declared.table.TableId.TheVariants as table_ids
use Rattle.depot_rows.specs.table_changes.Changed.{rows_of}
use Rattle.depot_rows.specs.table_store.Rows.{TableRows, rows_from}
use Rattle.change_lists.proofs.Newest.{none_from}
use Rattle.change_lists.proofs.numbers.newest_number.Goals as goal

halved : (low high : ℕ) → low < high → low ≤ (high - (high - low) / 2) - 1
halved low high h = omega arith

at_middle : (low high n : ℕ) → low < high → (high - (high - low) / 2) - 1 < n → high - (high - low) / 2 ≤ n
at_middle low high n h k = omega arith

pub loop-low-preserved : goal.loop-low-preserved
loop-low-preserved c =
    let low = c.loop-low.low in
    let high = c.loop-low.high in
    let middle = high - (high - low) / 2 in
    record {
      order = halved low high c.loop-low-test.true;
      reached = c.loop-low.invariant.reached;
      above = λ n more fits.
          none_from middle n (at_middle low high n c.loop-low-test.true more) (rows_of c.args.tables.now table_ids.Change)
          (ap (λ (v : TableRows). rows_from (keys.Change middle) v.rows) (sym c.version-changes.ensures.rows) ∙ c.has_from.ensures.none c.if-has_from.false);
    }
