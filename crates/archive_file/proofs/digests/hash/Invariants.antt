use Rattle.std.proofs.Common.{◌≡◌, ◌+◌, ◌-◌, ◌≤◌, length, take, drop}
use Rattle.md5.specs.Md5.{Holds}
use Rattle.outside_api.specs.Disk.{Files, NoMore, Same}
use Rattle.outside_api.specs.Moments.{LeavesOnly}
use Rattle.archive_file.proofs.digests.hash.Given as goal

abbrev pub invariant-loop-done : goal.invariant-loop-done
invariant-loop-done g l = record {
  within : l.done ≤ l.spot.length;
  holds : (files : Files) → g.D.Disk.says.seen l.fn.disk files → l.spot.at + l.spot.length ≤ length (files 0) → Holds l.hasher (take l.done (drop l.spot.at (files 0)));
  same : Same (g.D.Disk.says.seen l.fn.disk) (g.D.Disk.says.seen l.disk);
  crash : NoMore (g.D.Disk.says.may_leave l.fn.disk) (g.D.Disk.says.may_leave l.disk);
  any_moment : LeavesOnly g.D.Disk.says l.fn.disk l.disk (g.D.Disk.says.may_leave l.fn.disk);
  faults : g.D.Disk.says.faults l.disk ≡ g.D.Disk.says.faults l.fn.disk;
}

abbrev pub decreases-loop-done : goal.decreases-loop-done
decreases-loop-done g l = l.spot.length - l.done
