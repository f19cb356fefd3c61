use Rattle.std.proofs.Common.{◌≡◌, ◌++◌, length}
use Rattle.std.specs.Prelude.{map}
use Rattle.std.specs.Vec.Iter.{into_iter_items, into_iter_len}
use Rattle.depot_rows.specs.declared.deed.Deed.TheVariants as dones
use Rattle.change_lists.proofs.saving.push_opens.Given as goal

abbrev pub invariant-loop-opening : goal.invariant-loop-opening
invariant-loop-opening l =
    record {
      goes : l.deeds ++ map dones.Open (into_iter_items l.opening-iterator) ≡ l.fn.deeds ++ map dones.Open l.fn.openings;
      left : into_iter_len l.opening-iterator ≡ length (into_iter_items l.opening-iterator);
    }
