use Rattle.std.proofs.Common.{◌≡◌, ◌-◌, length, take}
use Rattle.journal_groups.specs.Groups.{body_of}
use Rattle.recovery.proofs.pieces.FileGroups.damaged_before.Given as goal

abbrev pub invariant-loop-change : goal.invariant-loop-change
invariant-loop-change l = l.place ≡ l.self.reader.reached - length (body_of (take l.change-index l.changes))
