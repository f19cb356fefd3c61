use Rattle.std.proofs.Common.{arith}
use Rattle.archive_file.proofs.Fronts.{told_has, told_same}
use Rattle.archive_file.proofs.contents.ArchiveContents.content.Goals as goal

pub returns-clause-content : goal.returns-clause-content
returns-clause-content g c = λ bytes told.
    told_has g.D.Disk.says c.args.self.now c.read.new.self c.read.ensures.same c.read.ensures.used bytes c.in-Ok.text c.args.spot told
    (omega (arith, c.is_within.ensures.0 c.if-not-is_within.false, c.used.ensures))
    c.in-Ok.ensures.content

pub returns-in-Err-DiskFault-clause-grows : goal.returns-in-Err-DiskFault-clause-grows
returns-in-Err-DiskFault-clause-grows g c = told_same g.D.Disk.says c.args.self.now c.read.new.self c.read.ensures.same c.read.ensures.used

pub returns-in-Err-Memory-clause-grows : goal.returns-in-Err-Memory-clause-grows
returns-in-Err-Memory-clause-grows g c = told_same g.D.Disk.says c.args.self.now c.read.new.self c.read.ensures.same c.read.ensures.used

pub returns-clause-grows : goal.returns-clause-grows
returns-clause-grows g c = told_same g.D.Disk.says c.args.self.now c.read.new.self c.read.ensures.same c.read.ensures.used
