use Rattle.std.proofs.Common.{List, sym, subst}
use Rattle.disk_journal.specs.Stands.{disk_of}
use Rattle.locked_tables.specs.declared.taken.Taken.{Taken}
use Rattle.shared_depot.specs.Common.{HasRunOrder}
use Rattle.shared_depot.specs.Stored.{is_unwritten}
use Rattle.shared_depot.proofs.Marks.{count_new}
use Rattle.shared_depot.proofs.written_journal.WrittenJournal.new.Goals as goal

pub invariant_of-result : goal.invariant_of-result
invariant_of-result g c =
    let D = g.D.Disk in (
      subst (λ (l : List Taken). HasRunOrder D.says g.N.Naming.rows g.N.Naming.end g.N.Imaging.images g.N.Serving.begins g.N.Serving.masters l c.args.tables c.args.journal) (sym c.requires.lane) c.requires.run,
      count_new is_unwritten g.N.Serving.faults (D.says.faults (disk_of c.args.journal)) c.args.lane c.args.marks.list c.requires.lane c.requires.marks c.requires.count,
    )
