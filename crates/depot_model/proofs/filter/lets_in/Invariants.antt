use Rattle.std.proofs.Common.{◌≡◌, ◌≤◌, length, take}
use Rattle.depot_model.specs.Filter.{deciding}
use Rattle.depot_model.proofs.filter.lets_in.Given as goal

abbrev pub invariant-loop-left : goal.invariant-loop-left
invariant-loop-left l =
    record {
      rest : deciding (take l.left l.rules) l.path ≡ deciding l.rules l.path;
      within : l.left ≤ length l.rules;
    }

abbrev pub decreases-loop-left : goal.decreases-loop-left
decreases-loop-left l = l.left
