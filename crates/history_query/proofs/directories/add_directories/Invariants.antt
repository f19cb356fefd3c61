use Rattle.std.proofs.Common.{◌≡◌, ◌≤◌, drop, length, take}
use Rattle.history_query.specs.Directories.{all_fitting}
use Rattle.history_query.proofs.Above.{slash_fronts}
use Rattle.history_query.proofs.directories.add_directories.Given as goal

abbrev pub invariant-loop-end : goal.invariant-loop-end
invariant-loop-end l = record {
  low : 2 ≤ l.end;
  high : l.end ≤ length l.bytes;
  fitting : l.set ≡ all_fitting l.pattern (slash_fronts (take l.end l.bytes) (drop l.end l.bytes)) l.fn.set;
}

abbrev pub decreases-loop-end : goal.decreases-loop-end
decreases-loop-end l = l.end
