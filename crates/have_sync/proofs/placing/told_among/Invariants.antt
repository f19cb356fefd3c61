use Rattle.std.proofs.Common.{◌≡◌, ◌++◌, length}
use Rattle.std.specs.Prelude.{filter}
use Rattle.std.specs.Vec.Iter.{into_iter_items, into_iter_len}
use Rattle.have_sync.specs.Placing.{is_told}
use Rattle.have_sync.proofs.placing.told_among.Given as goal

abbrev pub invariant-loop-path : goal.invariant-loop-path
invariant-loop-path l =
    record {
      goes : l.told ++ filter (is_told l.asker) (into_iter_items l.path-iterator) ≡ filter (is_told l.asker) l.fn.files;
      left : into_iter_len l.path-iterator ≡ length (into_iter_items l.path-iterator);
    }
