use Rattle.std.proofs.Common.{◌≡◌, ◌∷◌, length}
use Rattle.std.specs.List.{join_with_byte}
use Rattle.job_ops.proofs.jobs.joined.Given as goal

abbrev pub invariant-loop-rest : goal.invariant-loop-rest
invariant-loop-rest l = join_with_byte 0x0A (l.text ∷ l.rest) ≡ join_with_byte 0x0A l.lines

abbrev pub decreases-loop-rest : goal.decreases-loop-rest
decreases-loop-rest l = length l.rest
