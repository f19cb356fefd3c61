use Rattle.std.proofs.Common.{◌≡◌, ◌++◌, false, length}
use Rattle.std.specs.List.{AllByRecursion, list_any}
use Rattle.std.specs.Vec.Iter.{into_iter_items, into_iter_len}
use Rattle.locked_tables.specs.Known.{IsStill, is_touched}
use Rattle.table_locks.proofs.confirming.are_still.Given as goal

abbrev pub invariant-loop-peek : goal.invariant-loop-peek
invariant-loop-peek g l = record {
  items : l.yielded ++ into_iter_items l.peek-iterator ≡ l.fn.peeks.items;
  left : into_iter_len l.peek-iterator ≡ length (into_iter_items l.peek-iterator);
  same : l.order ≡ l.fn.order;
  still : AllByRecursion (IsStill g.N.Naming.rows l.fn.order) l.yielded;
  none : list_any (is_touched l.fn.order) l.yielded ≡ false;
}
