use Rattle.std.proofs.Common.{◌≡◌, length}
use Rattle.file_openings.specs.Plus.{behind_plus}
use Rattle.file_openings.proofs.exclusive.behind_plus.Given as goal

abbrev pub invariant-loop-rest : goal.invariant-loop-rest
invariant-loop-rest l = behind_plus l.rest ≡ behind_plus l.text

abbrev pub decreases-loop-rest : goal.decreases-loop-rest
decreases-loop-rest l = length l.rest
