use Rattle.std.proofs.Common.{List, sym, subst}
use Rattle.disk_journal.specs.Stands.{disk_of}
use Rattle.locked_tables.specs.declared.taken.Taken.{Taken}
use Rattle.shared_depot.specs.Common.{HasRunOrder, IsCountAfter}
use Rattle.shared_depot.specs.Stored.{is_unwritten}
use Rattle.shared_depot.proofs.Committed.{run_on}
use Rattle.shared_depot.proofs.Marks.{count_quietly}
use Rattle.shared_depot.proofs.written_journal.WrittenJournal.learn.Goals as goal

pub invariant_of-self : goal.invariant_of-self
invariant_of-self g c =
    let D = g.D.Disk in
    let rows = g.N.Naming.rows in
    let end = g.N.Naming.end in
    let images = g.N.Imaging.images in
    let begins = g.N.Serving.begins in
    let w = c.self.inside in (
      subst (λ (l : List Taken). HasRunOrder D.says rows end images begins g.N.Serving.masters l w.tables w.journal) (sym c.learn_journal.ensures.learnt)
          (run_on D.says rows end images begins g.N.Serving.masters w.lane c.args.common.now c.learn_journal.ensures.on w.tables w.journal c.self.invariant.0),
      subst (λ (l : List Taken). IsCountAfter is_unwritten g.N.Serving.faults (D.says.faults (disk_of w.journal)) l w.marks.list) (sym c.learn_journal.ensures.learnt)
          (count_quietly g.N.Serving.faults (D.says.faults (disk_of w.journal)) w.lane c.args.common.now w.marks.list c.learn_journal.ensures.on c.self.invariant.1),
    )
