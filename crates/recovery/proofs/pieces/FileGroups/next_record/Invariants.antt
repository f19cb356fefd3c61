use Rattle.std.proofs.Common.{◌≡◌, ◌-◌}
use Rattle.outside_api.specs.Disk.{Files}
use Rattle.recovery.specs.Looking.{OnlyReads}
use Rattle.recovery.specs.Pieces.{text_left, KnowsEnd}
use Rattle.recovery.proofs.pieces.FileGroups.next_record.Given as goal

abbrev pub invariant-loop-taken : goal.invariant-loop-taken
invariant-loop-taken g l = record {
  front : l.self.front ≡ l.initial.self.front;
  file : l.self.file ≡ l.initial.self.file;
  at : l.self.reader.at ≡ l.initial.self.reader.at;
  number : l.self.reader.number ≡ l.initial.self.reader.number;
  text : (files : Files) → g.D.Disk.says.seen l.initial.disk files → KnowsEnd l.initial.self files → (text_left l.self files ≡ text_left l.initial.self files) × KnowsEnd l.self files;
  reads : OnlyReads g.D.Disk.says l.initial.disk l.disk;
  faults : g.D.Disk.says.faults l.disk ≡ g.D.Disk.says.faults l.initial.disk;
}

abbrev pub decreases-loop-taken : goal.decreases-loop-taken
decreases-loop-taken g l = l.self.length - l.self.read
