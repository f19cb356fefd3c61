use Rattle.std.proofs.Common.{length, ◌-◌, ◌≡◌, ◌≤◌, take, drop}
use Rattle.outside_api.specs.Disk.{Files, NoMore, Same}
use Rattle.outside_api.specs.Moments.{LeavesOnly}
use Rattle.outside_api.proofs.filling.fill.Given as goal

abbrev pub invariant-loop-done : goal.invariant-loop-done
invariant-loop-done g l = record {
  within : l.done ≤ length l.buffer;
  bytes : (files : Files) → g.D.Disk.says.seen l.initial.disk files → (take l.done l.buffer ≡ take l.done (drop l.at (files l.file))) × (l.done ≤ length (drop l.at (files l.file)));
  same : Same (g.D.Disk.says.seen l.initial.disk) (g.D.Disk.says.seen l.disk);
  crash : NoMore (g.D.Disk.says.may_leave l.initial.disk) (g.D.Disk.says.may_leave l.disk);
  any_moment : LeavesOnly g.D.Disk.says l.initial.disk l.disk (g.D.Disk.says.may_leave l.initial.disk);
  faults : g.D.Disk.says.faults l.disk ≡ g.D.Disk.says.faults l.initial.disk;
}

abbrev pub decreases-loop-done : goal.decreases-loop-done
decreases-loop-done g l = length l.initial.buffer - l.done
