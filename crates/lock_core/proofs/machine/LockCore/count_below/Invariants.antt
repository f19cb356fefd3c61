use Rattle.std.proofs.Common.{◌≡◌, ◌≤◌, length}
use Rattle.lock_core.specs.Drawing.{may_go_below}
use Rattle.lock_core.proofs.machine.LockCore.count_below.Given as goal

-- those so far are counted
abbrev pub invariant-loop-party : goal.invariant-loop-party
invariant-loop-party l = record {
  counted : l.count ≡ length (may_go_below l.self.parties.items l.others l.party);
  few : l.count ≤ l.party;
}
