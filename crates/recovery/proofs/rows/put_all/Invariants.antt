use Rattle.std.proofs.Common.{◌≡◌, ℕ, List, []}
use Rattle.depot_rows.specs.db_records.declared.change.Change.{Change}
use Rattle.depot_rows.specs.table_changes.Drafts.{rows_of_draft}
use Rattle.recovery.specs.Looking.{OnlyReads}
use Rattle.recovery.specs.Reading.{HasPut, HasTaken}
use Rattle.recovery.proofs.rows.put_all.Given as goal

abbrev pub invariant-loop-left : goal.invariant-loop-left
invariant-loop-left g l = record {
  so_far : (generation : ℕ) → HasTaken (g.D.Disk.says.seen l.fn.disk) generation l.fn.groups l.fn.size [] → (puts : List Change) × (HasTaken (g.D.Disk.says.seen l.fn.disk) generation l.groups l.left puts × HasPut puts l.last (rows_of_draft l.draft));
  file : l.groups.file ≡ l.fn.groups.file;
  reads : OnlyReads g.D.Disk.says l.fn.disk l.disk;
  faults : g.D.Disk.says.faults l.disk ≡ g.D.Disk.says.faults l.fn.disk;
}

abbrev pub decreases-loop-left : goal.decreases-loop-left
decreases-loop-left g l = l.left
