use Rattle.std.proofs.Common.{◌≡◌, List, subst}
use Rattle.depot_model.specs.db_records.declared.table.TableId.{TableId}
use Rattle.table_changes.specs.Changed.{changed_by}
use Rattle.locked_tables.specs.Taken.{changes_of, rows_after}
use Rattle.locked_tables.specs.declared.taken.Taken.{Taken}
use Rattle.locked_tables.proofs.Rows.{rows_changed}
use Rattle.locked_tables.proofs.placed_order.PlacedOrder.rows_are_changed.Goals as goal

pub returns : goal.returns
returns g c =
    let rows = g.N.Naming.rows in
    subst (λ (l : List Taken). (table : TableId) → rows_after rows l table ≡ changed_by rows (changes_of l) table) c.self.view_is (λ table. rows_changed table c.self.inside.seat.list rows c.self.invariant.2)
