use Rattle.std.proofs.Common.{◌≡◌, ◌∙◌, List, sym, subst}
use Rattle.archive_file.specs.Archive.{disk_of as archive_disk_of}
use Rattle.disk_journal.specs.Stands.{disk_of}
use Rattle.locked_tables.specs.declared.taken.Taken.{Taken}
use Rattle.shared_depot.specs.Common.{HasRunOrder, IsArchiveAfter, IsCountAfter}
use Rattle.shared_depot.specs.Stored.{is_lost, is_unwritten}
use Rattle.shared_depot.proofs.Committed.{run_on}
use Rattle.shared_depot.proofs.Marks.{count_learnt, count_quietly}
use Rattle.shared_depot.proofs.Order.{archive_learnt}
use Rattle.shared_depot.proofs.shared.SharedDepot.open.Goals as goal

pub invariant_of-result : goal.invariant_of-result
invariant_of-result g c =
    let D = g.D.Disk in
    let rows = g.N.Naming.rows in
    let end = g.N.Naming.end in
    let images = g.N.Imaging.images in
    let begins = g.N.Serving.begins in
    let was = c.journal_lane.inside in
    let kept = c.lane.inside in
    let order = c.into_inner-common.result in
    let here : order ≡ c.learn_archive.new.self = sym (c.learn_archive.ensures.same ∙ (c.common.view_is ∙ c.learn_journal.ensures.same)) in (
      subst (λ (l : List Taken). HasRunOrder D.says rows end images begins g.N.Serving.masters l was.tables was.journal) here
          (run_on D.says rows end images begins g.N.Serving.masters was.lane order c.learn_journal.ensures.on was.tables was.journal c.journal_lane.invariant.0),
      subst (λ (l : List Taken). IsArchiveAfter D.says end images begins l kept.archive) (sym c.learn_archive.ensures.same)
          (archive_learnt D.says end images begins kept.lane c.common.inside.order kept.archive c.lane.invariant.0 c.learn_archive.ensures.behind),
      subst (λ (l : List Taken). IsCountAfter is_unwritten g.N.Serving.faults (D.says.faults (disk_of was.journal)) l was.marks.list) here
          (count_quietly g.N.Serving.faults (D.says.faults (disk_of was.journal)) was.lane order was.marks.list c.learn_journal.ensures.on c.journal_lane.invariant.1),
      subst (λ (l : List Taken). IsCountAfter is_lost g.N.Serving.content_faults (D.says.faults (archive_disk_of kept.archive)) l kept.marks.list) (sym c.learn_archive.ensures.same)
          (count_learnt g.N.Serving.content_faults (D.says.faults (archive_disk_of kept.archive)) kept.lane c.common.inside.order kept.marks.list c.learn_archive.ensures.behind c.lane.invariant.1),
    )
