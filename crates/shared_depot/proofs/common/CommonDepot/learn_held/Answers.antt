use Rattle.std.proofs.Common.{◌≡◌, List, sym, subst, ◌∙◌}
use Rattle.std.specs.Prelude.{IfSome}
use Rattle.std.specs.Sync.Mutex.{mutex_guard_value}
use Rattle.archive_file.specs.Archive.{disk_of}
use Rattle.locked_tables.specs.Taken.{end_after}
use Rattle.locked_tables.specs.declared.taken.Taken.{Taken}
use Rattle.shared_depot.specs.Common.{IsArchiveAfter, IsCountAfter}
use Rattle.shared_depot.specs.Room.{IsEndKnown}
use Rattle.shared_depot.specs.Stored.{is_lost, stores_of}
use Rattle.shared_depot.proofs.Marks.{count_learnt}
use Rattle.shared_depot.proofs.Order.{archive_learnt}
use Rattle.shared_depot.proofs.Stored.{stores_kept}
use Rattle.shared_depot.proofs.common.CommonDepot.learn_held.Goals as goal

pub invariant_of-held : goal.invariant_of-held
invariant_of-held g c =
    let D = g.D.Disk in (
      subst (λ (l : List Taken). IsArchiveAfter D.says g.N.Naming.end g.N.Imaging.images g.N.Serving.begins l c.held.inside.archive) (sym c.learn_archive.ensures.learnt)
          (archive_learnt D.says g.N.Naming.end g.N.Imaging.images g.N.Serving.begins c.held.inside.lane c.args.self.now c.held.inside.archive c.held.invariant.0 c.learn_archive.ensures.behind),
      subst (λ (l : List Taken). IsCountAfter is_lost g.N.Serving.content_faults (D.says.faults (disk_of c.held.inside.archive)) l c.held.inside.marks.list) (sym c.learn_archive.ensures.learnt)
          (count_learnt g.N.Serving.content_faults (D.says.faults (disk_of c.held.inside.archive)) c.held.inside.lane c.args.self.now c.held.inside.marks.list c.learn_archive.ensures.behind c.held.invariant.1),
    )

pub returns-in-Some-clause-still : goal.returns-in-Some-clause-still
returns-in-Some-clause-still g c =
    let end = g.N.Naming.end in
    subst (IsEndKnown end (end_after end c.args.self.now)) (sym c.in-Some.is)
    (subst (λ (l : List Taken). end_after end c.args.self.now ≡ end_after end l) (c.held.view_is ∙ c.deref_mut-held.ensures.value) c.learn_archive.ensures.end)

pub returns-in-Some-clause-stores : goal.returns-in-Some-clause-stores
returns-in-Some-clause-stores g c =
    subst (λ o. IfSome o (λ guard. stores_of c.args.self.now ≡ stores_of (mutex_guard_value guard))) (sym c.in-Some.is)
    (subst (λ (l : List Taken). stores_of c.args.self.now ≡ stores_of l) (c.held.view_is ∙ c.deref_mut-held.ensures.value) (stores_kept c.held.inside.lane c.args.self.now c.learn_archive.ensures.behind))
