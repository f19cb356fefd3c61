use Rattle.std.proofs.Common.{◌≡◌, length}
use Rattle.view_map.specs.Mapping.{taken_by_some}
use Rattle.view_map.proofs.view.is_taken.Given as goal

abbrev pub invariant-loop-rest : goal.invariant-loop-rest
invariant-loop-rest l = taken_by_some l.rest l.file ≡ taken_by_some l.lines l.file

abbrev pub decreases-loop-rest : goal.decreases-loop-rest
decreases-loop-rest l = length l.rest
