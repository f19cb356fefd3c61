use Rattle.p4_server.proofs.Histories.{begins_with, next_of, promise_begins, promise_leaves}
use Rattle.p4_server.proofs.laws.runs_follow_one_another.Goals as goal

pub returns-clause-begun : goal.returns-clause-begun
returns-clause-begun g c = λ old_doors new_doors words before after asks promise done tells archive_tells.
    promise_begins _ g.met.D.Disk.reads_an_image g.met.D.Disk.reads_one old_doors new_doors before after words asks promise done tells archive_tells

pub returns-clause-goes_on : goal.returns-clause-goes_on
returns-clause-goes_on g c = λ old_doors new_doors words before after promise w.
    promise_leaves _ g.met.D.Disk.reads_an_image g.met.D.Disk.reads_one old_doors new_doors before after words promise w

pub returns-clause-next : goal.returns-clause-next
returns-clause-next g c = next_of g.D.Disk.says

pub returns-clause-begins : goal.returns-clause-begins
returns-clause-begins g c = begins_with g.D.Disk.says g.met.D.Disk.reads_an_image g.met.D.Disk.reads_one
