use Rattle.std.proofs.Common.{List, sym, subst}
use Rattle.archive_file.specs.Archive.{disk_of}
use Rattle.locked_tables.specs.declared.taken.Taken.{Taken}
use Rattle.shared_depot.specs.Common.{IsArchiveAfter}
use Rattle.shared_depot.specs.Stored.{is_lost}
use Rattle.shared_depot.proofs.Marks.{count_new}
use Rattle.shared_depot.proofs.stored_archive.StoredArchive.new.Goals as goal

pub invariant_of-result : goal.invariant_of-result
invariant_of-result g c =
    let D = g.D.Disk in (
      subst (λ (l : List Taken). IsArchiveAfter D.says g.N.Naming.end g.N.Imaging.images g.N.Serving.begins l c.args.archive) (sym c.requires.lane) c.requires.archive,
      count_new is_lost g.N.Serving.content_faults (D.says.faults (disk_of c.args.archive)) c.args.lane c.args.marks.list c.requires.lane c.requires.marks c.requires.count,
    )
