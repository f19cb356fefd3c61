use Rattle.std.proofs.Common.{◌≡◌, ◌≤◌, ◌+◌, ◌++◌, [], length}
use Rattle.std.specs.Prelude.{map}
use Rattle.std.specs.Arc.{arc_value}
use Rattle.std.specs.Vec.Iter.{into_iter_items, into_iter_len}
use Rattle.session_loop.specs.Asking.{asked_from}
use Rattle.session_loop.specs.Passing.{asked_in}
use Rattle.session_loop.proofs.reading.asked_by_entries.Given as goal

-- the commands so far, and then what those that are left ask
abbrev pub invariant-loop-placed : goal.invariant-loop-placed
invariant-loop-placed l =
    record {
      goes : l.commands ++ map (asked_in (arc_value l.script).files) (into_iter_items l.placed-iterator) ≡ asked_from [] l.fn.entries;
      few : length l.commands + length (into_iter_items l.placed-iterator) ≤ length l.fn.entries;
      left : into_iter_len l.placed-iterator ≡ length (into_iter_items l.placed-iterator);
    }
