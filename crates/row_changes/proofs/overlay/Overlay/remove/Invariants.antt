use Rattle.std.proofs.Common.{◌≡◌, ◌++◌}
use Rattle.row_changes.specs.Ranges.{Removes}
use Rattle.row_changes.proofs.overlay.Overlay.remove.Given as goal

abbrev pub invariant-loop-key : goal.invariant-loop-key
invariant-loop-key l = record {
  whole : l.yielded ++ l.key-iterator.rest.items ≡ l.fn.gone.items;
  done : Removes l.yielded l.initial.self.touched l.self.touched;
}
