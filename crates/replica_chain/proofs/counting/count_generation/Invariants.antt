use Rattle.std.proofs.Common.{◌-◌, ◌≤◌, ◌<◌, ℕ, List, length, take}
use Rattle.disk_journal.specs.Scanned.{HasScanned}
use Rattle.disk_journal.specs.Stands.{disk_of}
use Rattle.outside_api.specs.Link.{text_of}
use Rattle.replica_pull.specs.Prefix.{HasNoGroup}
use Rattle.replica_chain.specs.Counting.{HasCounted}
use Rattle.replica_chain.specs.Ends.{HasTexts, IsLooked}
use Rattle.replica_chain.proofs.counting.count_generation.Given as goal

abbrev pub invariant-loop-counter : goal.invariant-loop-counter
invariant-loop-counter g l = record {
  counted : (texts : List (List ℕ)) → HasTexts g.D.Disk.says l.fn.journal texts → HasCounted (take l.counter.bytes (text_of texts l.generation)) l.counter.reader l.counter.groups;
  within : (texts : List (List ℕ)) → HasTexts g.D.Disk.says l.fn.journal texts → l.counter.bytes ≤ length (text_of texts l.generation);
  none : HasNoGroup l.counter.reader.number l.counter.reader.left;
  scanned : HasScanned g.D.Disk.says (disk_of l.journal) l.scanned;
  looked : IsLooked g.D.Disk.says l.fn.journal l.journal;
  faults : g.D.Disk.says.faults (disk_of l.fn.journal) ≤ g.D.Disk.says.faults (disk_of l.journal);
  room : 0 < length l.buffer;
}

abbrev pub decreases-loop-counter : goal.decreases-loop-counter
decreases-loop-counter g l = 9223372036854775808 - l.counter.bytes
