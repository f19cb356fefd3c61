use Rattle.std.proofs.Common.{◌≡◌, ◌++◌, length}
use Rattle.std.specs.Vec.Iter.{into_iter_items, into_iter_len}
use Rattle.deed_list.proofs.append.Given as goal

abbrev pub invariant-loop-item : goal.invariant-loop-item
invariant-loop-item g l =
    record {
      goes : l.list ++ into_iter_items l.item-iterator ≡ l.fn.list ++ l.fn.more;
      left : into_iter_len l.item-iterator ≡ length (into_iter_items l.item-iterator);
    }
