use Rattle.std.proofs.Common.{◌≡◌, ◌-◌, length, take}
use Rattle.journal_groups.specs.Groups.{body_of}
use Rattle.replica_pull.proofs.feed.place_before.Given as goal

abbrev pub invariant-loop-change : goal.invariant-loop-change
invariant-loop-change l = l.place ≡ l.end - length (body_of (take l.change-index l.changes))
