use Rattle.outside_api.specs.Moments.{started, goes_on}
use Rattle.archive_file.specs.Archive.{disk_of}
use Rattle.archive_file.proofs.archive.Archive.sync.Goals as goal

pub returns-clause-any_moment : goal.returns-clause-any_moment
returns-clause-any_moment g c =
    let disk = disk_of c.args.self.now in
    goes_on g.D.Disk.says disk disk c.sync.new.self (g.D.Disk.says.may_leave disk) (started g.D.Disk.says disk (g.D.Disk.says.may_leave disk) (g.met.D.Disk.only_now disk)) c.sync.ensures.time c.sync.ensures.crash
