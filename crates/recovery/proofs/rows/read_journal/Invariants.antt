use Rattle.std.proofs.Common.{◌≡◌, ◌+◌, ◌*◌, ◌-◌, ◌^◌}
use Rattle.depot_rows.specs.table_changes.Drafts.{rows_of_draft}
use Rattle.recovery.specs.Looking.{OnlyReads}
use Rattle.recovery.specs.Reading.{SoFar}
use Rattle.recovery.proofs.rows.read_journal.Given as goal

abbrev pub invariant-loop-groups : goal.invariant-loop-groups
invariant-loop-groups g l = record {
  so_far : SoFar (g.D.Disk.says.seen l.fn.disk) (1 + 2 * l.generation) l.count l.groups (rows_of_draft l.fn.draft) (rows_of_draft l.draft);
  front : l.groups.front ≡ 0;
  reads : OnlyReads g.D.Disk.says l.fn.disk l.disk;
  faults : g.D.Disk.says.faults l.disk ≡ g.D.Disk.says.faults l.fn.disk;
}

abbrev pub decreases-loop-groups : goal.decreases-loop-groups
decreases-loop-groups g l = 2 ^ 63 - l.groups.reader.at
