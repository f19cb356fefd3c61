use Rattle.serial_depot.proofs.Parts.{read_can, read_run}
use Rattle.depot_commit.proofs.Growing.{stored_read}
use Rattle.serial_depot.proofs.depot.SerialDepot.contents.Goals as goal

pub returns-clause-can : goal.returns-clause-can
returns-clause-can g c = λ can.
    let read = c.read_contents.ensures.read in
    read_can g.D.Disk.says c.args.self.now c.read_contents.new.archive read.used read.same read.crash can

pub returns-clause-ran : goal.returns-clause-ran
returns-clause-ran g c = λ since start places h.
    let read = c.read_contents.ensures.read in
    read_run g.D.Disk.says c.args.self.now c.read_contents.new.archive read.used read.same read.crash since start places h

pub returns-clause-no_call : goal.returns-clause-no_call
returns-clause-no_call g c = λ none.
    let same = c.read_contents.ensures.no_call none in
    λ i. record { tables = c.args.self.now.tables; journal = c.args.self.now.journal; archive = same i }

pub returns-clause-stored : goal.returns-clause-stored
returns-clause-stored g c = stored_read g.D.Disk.says c.args.self.now.archive c.read_contents.new.archive c.read_contents.ensures.read.used c.read_contents.ensures.read.crash
