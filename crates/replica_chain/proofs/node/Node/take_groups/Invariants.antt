use Rattle.std.proofs.Common.{◌≡◌, ◌≤◌, List, [], length}
use Rattle.outside_api.specs.Link.{text_of}
use Rattle.outside_api.specs.Reaching.{Reaches}
use Rattle.archive_file.specs.Archive.{disk_of as archive_disk_of}
use Rattle.depot_rows.specs.db_records.declared.change.Change.{Change}
use Rattle.disk_journal.specs.Stands.{disk_of}
use Rattle.replica_chain.specs.Chronicle.{Chronicle}
use Rattle.replica_chain.specs.Copying.{KeepsContents}
use Rattle.replica_chain.specs.Masters.{GoesOnBehind, HasNoFewer, IsBehind, Upstream}
use Rattle.replica_chain.specs.Node.{CanFollow, IsNode, IsSettled}
use Rattle.replica_chain.specs.Pulling.{HasTakenGroups}
use Rattle.replica_chain.proofs.Pieces.{StandsLeft}
use Rattle.replica_chain.proofs.node.Node.take_groups.Given as goal

abbrev pub invariant-loop-changes : goal.invariant-loop-changes
invariant-loop-changes g l = record {
  can : CanFollow g.D.Disk.says l.self;
  settled : IsSettled g.D.Disk.says l.self;
  rest : l.self.rest ≡ [];
  taken : (groups : List (List Change)) × ((l.count ≡ length groups) × HasTakenGroups l.fn.self l.self l.fn.reader groups l.reader);
  node : (c : Chronicle) → IsNode g.D.Disk.says l.fn.self c → HasNoFewer g.D.Disk.says l.self c;
  behind : (c : Chronicle) (up : Upstream) → g.C.Contents.tells l.fn.contents up.bytes → IsBehind g.D.Disk.says l.fn.self c up → StandsLeft (text_of up.texts (length c.closed)) l.fn.reader
      → GoesOnBehind g.D.Disk.says l.fn.self l.self c up (λ texts. texts ≡ up.texts) (g.C.Contents.tells l.contents) × StandsLeft (text_of up.texts (length c.closed)) l.reader;
  reached : Reaches g.C.Contents.keeps l.fn.contents l.contents;
  keeps : KeepsContents g.D.Disk.says l.fn.self.archive l.self.archive;
  contents_count : g.C.Contents.faults l.fn.contents ≤ g.C.Contents.faults l.contents;
  journal_count : g.D.Disk.says.faults (disk_of l.fn.self.link.journal) ≤ g.D.Disk.says.faults (disk_of l.self.link.journal);
  archive_count : g.D.Disk.says.faults (archive_disk_of l.fn.self.archive) ≤ g.D.Disk.says.faults (archive_disk_of l.self.archive);
}

abbrev pub decreases-loop-changes : goal.decreases-loop-changes
decreases-loop-changes g l = length l.reader.left
