use Rattle.std.proofs.Common.{◌≡◌, ◌≤◌, length}
use Rattle.lock_core.specs.Drawing.{may_go_below}
use Rattle.lock_core.proofs.machine.LockCore.nth_below.Given as goal

-- those so far are passed, and they are no more than the place
abbrev pub invariant-loop-party : goal.invariant-loop-party
invariant-loop-party l = record {
  counted : l.passed ≡ length (may_go_below l.self.parties.items l.others l.party);
  before : l.passed ≤ l.place;
}
