use Rattle.std.proofs.Common.{◌≤◌, ◌-◌, List, ℕ}
use Rattle.disk_journal.specs.Scanned.{HasScanned}
use Rattle.disk_journal.specs.Stands.{disk_of}
use Rattle.replica_chain.specs.Apart.{AreSameTo}
use Rattle.replica_chain.specs.Ends.{HasTexts, IsLooked}
use Rattle.replica_chain.proofs.apart.compare_generation.Given as goal

abbrev pub invariant-loop-at : goal.invariant-loop-at
invariant-loop-at g l = record {
  same : (texts others : List (List ℕ)) → HasTexts g.D.Disk.says l.fn.node texts → HasTexts g.D.Disk.says l.fn.up others → AreSameTo texts others l.generation l.at;
  node_scanned : HasScanned g.D.Disk.says (disk_of l.node) l.node_scanned;
  up_scanned : HasScanned g.D.Disk.says (disk_of l.up) l.up_scanned;
  node_looked : IsLooked g.D.Disk.says l.fn.node l.node;
  up_looked : IsLooked g.D.Disk.says l.fn.up l.up;
  node_faults : g.D.Disk.says.faults (disk_of l.fn.node) ≤ g.D.Disk.says.faults (disk_of l.node);
  up_faults : g.D.Disk.says.faults (disk_of l.fn.up) ≤ g.D.Disk.says.faults (disk_of l.up);
}

abbrev pub decreases-loop-at : goal.decreases-loop-at
decreases-loop-at g l = 9223372036854775808 - l.at
