use Rattle.std.proofs.Common.{◌≡◌, ◌≤◌, ◌+◌, [], length}
use Rattle.std.specs.Vec.Iter.{into_iter_items, into_iter_len}
use Rattle.session_loop.specs.Asking.{asked_from}
use Rattle.session_loop.specs.Passing.{AreBehind, all_asked}
use Rattle.session_loop.proofs.reading.passed.Given as goal

-- what the commands so far ask, and then the entries that are left
abbrev pub invariant-loop-entry : goal.invariant-loop-entry
invariant-loop-entry l =
    record {
      behind : AreBehind l.script.lines l.items;
      goes : all_asked l.script l.items (into_iter_items l.entry-iterator) ≡ asked_from [] l.fn.entries;
      few : length l.items + length (into_iter_items l.entry-iterator) ≤ length l.fn.entries;
      left : into_iter_len l.entry-iterator ≡ length (into_iter_items l.entry-iterator);
    }
