use Rattle.std.proofs.Common.{◌≡◌, take}
use Rattle.journal_groups.specs.Groups.{body_of}
use Rattle.journal_groups.proofs.group.print_body.Given as goal

abbrev pub invariant-loop-change : goal.invariant-loop-change
invariant-loop-change l = l.body ≡ body_of (take l.change-index l.changes)
