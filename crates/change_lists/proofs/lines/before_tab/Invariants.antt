use Rattle.std.proofs.Common.{◌≡◌, ◌≤◌, ◌++◌, length, take, drop}
use Rattle.std.specs.Prelude.{◌-◌}
use Rattle.depot_rows.specs.depot_model.Steps.Changing.{path_before_tab}
use Rattle.change_lists.proofs.lines.before_tab.Given as goal

abbrev pub invariant-loop-n : goal.invariant-loop-n
invariant-loop-n l = record {
  within : l.n ≤ length l.line;
  passed : path_before_tab l.line ≡ take l.n l.line ++ path_before_tab (drop l.n l.line);
}

abbrev pub decreases-loop-n : goal.decreases-loop-n
decreases-loop-n l = length l.line - l.n
