use Rattle.std.proofs.Common.{◌≡◌}
use Rattle.shared_depot.proofs.shared.SharedDepot.take_asked.Given as goal

-- no attempt so far did anything
abbrev pub invariant-loop-look : goal.invariant-loop-look
invariant-loop-look g l = (l.pass ≡ l.fn.pass) × (l.asked ≡ l.fn.asked)
