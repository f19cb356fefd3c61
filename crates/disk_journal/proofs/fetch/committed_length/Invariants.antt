use Rattle.std.proofs.Common.{ℕ, ◌≡◌, ◌-◌, ◌^◌, ◌<◌, List}
use Rattle.outside_api.specs.Disk.{Files, NoMore, Same}
use Rattle.outside_api.specs.Moments.{LeavesOnly}
use Rattle.disk_journal.specs.Fetch.{IsReached}
use Rattle.disk_journal.specs.Older.{IsClosed}
use Rattle.disk_journal.proofs.fetch.committed_length.Given as goal

abbrev pub invariant-loop-length : goal.invariant-loop-length
invariant-loop-length g l = record {
  small : l.length < 2 ^ 63;
  reached : (groups : List (List ℕ)) (files : Files) → g.D.Disk.says.seen l.initial.disk files → IsClosed groups (files l.file) → IsReached groups l.from → IsReached groups l.length;
  same : Same (g.D.Disk.says.seen l.initial.disk) (g.D.Disk.says.seen l.disk);
  crash : NoMore (g.D.Disk.says.may_leave l.initial.disk) (g.D.Disk.says.may_leave l.disk);
  any_moment : LeavesOnly g.D.Disk.says l.initial.disk l.disk (g.D.Disk.says.may_leave l.initial.disk);
  faults : g.D.Disk.says.faults l.disk ≡ g.D.Disk.says.faults l.initial.disk;
}

abbrev pub decreases-loop-length : goal.decreases-loop-length
decreases-loop-length g l = l.enough - l.length
