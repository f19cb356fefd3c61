use Rattle.std.proofs.Common.{◌≡◌, sym, subst, ◌∙◌, ap, arith}
use Rattle.archive_file.specs.Archive as archives
use Rattle.outside_api.specs.Disk.{StillTells}
use Rattle.depot_commit.specs.Storing.{AllReach, AllStored, KeepsBelow, stores_end}
use Rattle.depot_commit.proofs.Beside.{ends_there, none_counted}
use Rattle.depot_commit.proofs.Stored.{keeps_reach, on_err}
use Rattle.depot_commit.proofs.store.ArchiveStore.store.Goals as goal

pub store_all-requires-clause-above : goal.store_all-requires-clause-above
store_all-requires-clause-above g c = let used = c.requires.used.0 in omega (arith, used)

pub keep-requires : goal.keep-requires
keep-requires g c = let fits = c.in_ok-end.ensures.stored.fits in omega (arith, fits)

-- ---- a content couldn't be stored

pub returns-in_err-end-clause-unused : goal.returns-in_err-end-clause-unused
returns-in_err-end-clause-unused g c =
    let D = g.D.Disk in
    let old = D.says.may_leave (archives.disk_of c.args.self.now) in
    let new = D.says.may_leave (archives.disk_of c.store_all.new.archive) in
    on_err c.from_residual.result _ (c.store_all.ensures.kept.used ∙ c.requires.used.0, keeps_reach old new c.args.used c.args.used (omega arith) c.store_all.ensures.kept.kept c.requires.used.1)

pub returns-in_err-end-clause-unstored : goal.returns-in_err-end-clause-unstored
returns-in_err-end-clause-unstored g c =
    let D = g.D.Disk in
    let archive = c.args.self.now in
    let old = D.says.may_leave (archives.disk_of archive) in
    let new = D.says.may_leave (archives.disk_of c.store_all.new.archive) in
    let at : c.args.used ≡ archives.used_of archive = sym c.requires.used.0 in
    on_err c.from_residual.result _
    (none_counted D.says archive c.store_all.new.archive c.store_all.ensures.kept.used (subst (KeepsBelow old new) at c.store_all.ensures.kept.kept) (subst (AllReach old) at c.requires.used.1) c.store_all.ensures.kept.told)

-- ---- they were stored

pub returns-clause-used : goal.returns-clause-used
returns-clause-used g c =
    let D = g.D.Disk in
    let Reach : g.row.D.Denot → Type 0 = λ disk. AllReach (D.says.may_leave disk) c.in_ok-end.end in (
      ends_there (archives.used_of c.args.self.now) (archives.used_of c.store_all.new.archive) (archives.used_of c.keep.new.self) c.args.used c.in_ok-end.end c.args.contents.now
          (sym c.requires.used.0) c.store_all.ensures.kept.used c.keep.ensures.used c.in_ok-end.ensures.stored.end_is,
      subst Reach (sym c.keep.ensures.disk) c.in_ok-end.ensures.stored.room,
    )

pub returns-clause-stored : goal.returns-clause-stored
returns-clause-stored g c =
    let D = g.D.Disk in
    let old = c.args.self.now in
    let mid = c.store_all.new.archive in
    let new = c.keep.new.self in
    let contents = c.args.contents.now in
    let at : c.args.used ≡ archives.used_of old = sym c.requires.used.0 in
    let same = sym c.keep.ensures.disk in
    let used_is = ends_there (archives.used_of old) (archives.used_of mid) (archives.used_of new) c.args.used c.in_ok-end.end contents at c.store_all.ensures.kept.used c.keep.ensures.used c.in_ok-end.ensures.stored.end_is in
    let Keeps : g.row.D.Denot → Type 0 = λ disk. KeepsBelow (D.says.may_leave (archives.disk_of old)) (D.says.may_leave disk) (archives.used_of old) in
    let Tells : g.row.D.Denot → Type 0 = λ disk. StillTells (D.says.seen (archives.disk_of old)) (D.says.seen disk) in
    let Reach : g.row.D.Denot → Type 0 = λ disk. AllReach (D.says.may_leave disk) (archives.used_of new) in
    let Stores : g.row.D.Denot → Type 0 = λ disk. AllStored (D.says.may_leave disk) contents (archives.used_of old) in
    record {
      used = used_is ∙ (c.in_ok-end.ensures.stored.end_is ∙ ap (stores_end contents) at);
      kept = subst Keeps same (subst (KeepsBelow (D.says.may_leave (archives.disk_of old)) (D.says.may_leave (archives.disk_of mid))) at c.store_all.ensures.kept.kept);
      all = subst Stores same (subst (AllStored (D.says.may_leave (archives.disk_of mid)) contents) at c.in_ok-end.ensures.stored.stored);
      room = subst Reach same (subst (AllReach (D.says.may_leave (archives.disk_of mid))) (sym used_is) c.in_ok-end.ensures.stored.room);
      tells = subst Tells same c.store_all.ensures.kept.told;
    }
