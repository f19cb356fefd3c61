use Rattle.std.proofs.Common.{◌≡◌, ◌≤◌, ◌<◌, List, ℕ, length}
use Rattle.disk_journal.specs.Stands.{disk_of}
use Rattle.replica_chain.specs.Apart.{AreAlike}
use Rattle.replica_chain.specs.Ends.{HasTexts, IsLooked}
use Rattle.replica_chain.proofs.apart.first_departure.Given as goal

abbrev pub invariant-loop-generation : goal.invariant-loop-generation
invariant-loop-generation g l = record {
  alike : (texts others : List (List ℕ)) → HasTexts g.D.Disk.says l.fn.node texts → HasTexts g.D.Disk.says l.fn.up others → (generation : ℕ) → generation < l.generation → AreAlike texts others generation;
  room : length l.buffer ≡ 65536;
  other_room : length l.other ≡ 65536;
  node_looked : IsLooked g.D.Disk.says l.fn.node l.node;
  up_looked : IsLooked g.D.Disk.says l.fn.up l.up;
  node_faults : g.D.Disk.says.faults (disk_of l.fn.node) ≤ g.D.Disk.says.faults (disk_of l.node);
  up_faults : g.D.Disk.says.faults (disk_of l.fn.up) ≤ g.D.Disk.says.faults (disk_of l.up);
}
