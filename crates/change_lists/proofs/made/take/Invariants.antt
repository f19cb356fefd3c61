use Rattle.std.proofs.Common.{◌≡◌, ◌++◌, ℕ, List, length}
use Rattle.std.specs.Vec.Iter.{into_iter_items, into_iter_len}
use Rattle.depot_rows.specs.depot_model.Arguments.{is_in}
use Rattle.change_lists.proofs.made.take.Given as goal

abbrev pub invariant-loop-path : goal.invariant-loop-path
invariant-loop-path l =
    record {
      goes : (path : List ℕ) → is_in (l.taken ++ into_iter_items l.path-iterator) path ≡ is_in (l.fn.taken ++ l.fn.paths) path;
      left : into_iter_len l.path-iterator ≡ length (into_iter_items l.path-iterator);
    }
