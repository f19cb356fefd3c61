use Rattle.std.proofs.Common.{inl, inr, refl, ◌∙◌}
use Rattle.depot_rows.proofs.depot_model.Empty.{empty_is_sound}
use Rattle.recovery.proofs.Empty.{made_stands, made_committed}
use Rattle.recovery.proofs.Making.{looks_at_none, looked, looked_images, looked_moments, made_images, made_moments, only_looked, others_read, disk_fault}
use Rattle.recovery.proofs.make.make_files.Goals as goal

pub returns-clause-empty_depot : goal.returns-clause-empty_depot
returns-clause-empty_depot g c = λ image contents left. made_stands empty_is_sound image contents (made_committed image (c.in_ok-make_files.ensures.made.each image left))

pub returns-clause-others : goal.returns-clause-others
returns-clause-others g c = others_read (g.D.Disk.says.seen c.args.journal.now) (g.D.Disk.says.seen c.length.new.self) (g.D.Disk.says.may_leave c.make_files.new.disk) c.length.ensures.same c.in_ok-make_files.ensures.others

-- ---- the journal's disk

pub returns-in_err-length-clause-images : goal.returns-in_err-length-clause-images
returns-in_err-length-clause-images g c =
    looked_images g.D.Disk.says c.args.journal.now c.length.new.self c.length.new.self
    (looked g.D.Disk.says c.args.journal.now c.length.new.self c.length.new.self (g.met.D.Disk.only_now c.args.journal.now) c.length.ensures.crash c.length.ensures.time)

pub returns-in_err-length-clause-any_moment : goal.returns-in_err-length-clause-any_moment
returns-in_err-length-clause-any_moment g c =
    looked_moments g.D.Disk.says c.args.journal.now c.length.new.self c.length.new.self
    (looked g.D.Disk.says c.args.journal.now c.length.new.self c.length.new.self (g.met.D.Disk.only_now c.args.journal.now) c.length.ensures.crash c.length.ensures.time)

pub returns-then-length-ne0-clause-images : goal.returns-then-length-ne0-clause-images
returns-then-length-ne0-clause-images g c =
    looked_images g.D.Disk.says c.args.journal.now c.length.new.self c.length.new.self
    (looked g.D.Disk.says c.args.journal.now c.length.new.self c.length.new.self (g.met.D.Disk.only_now c.args.journal.now) c.length.ensures.crash c.length.ensures.time)

pub returns-then-length-ne0-clause-any_moment : goal.returns-then-length-ne0-clause-any_moment
returns-then-length-ne0-clause-any_moment g c =
    looked_moments g.D.Disk.says c.args.journal.now c.length.new.self c.length.new.self
    (looked g.D.Disk.says c.args.journal.now c.length.new.self c.length.new.self (g.met.D.Disk.only_now c.args.journal.now) c.length.ensures.crash c.length.ensures.time)

pub returns-in_err-sync-clause-images : goal.returns-in_err-sync-clause-images
returns-in_err-sync-clause-images g c =
    looked_images g.D.Disk.says c.args.journal.now c.length.new.self c.length.new.self
    (looked g.D.Disk.says c.args.journal.now c.length.new.self c.length.new.self (g.met.D.Disk.only_now c.args.journal.now) c.length.ensures.crash c.length.ensures.time)

pub returns-in_err-sync-clause-any_moment : goal.returns-in_err-sync-clause-any_moment
returns-in_err-sync-clause-any_moment g c =
    looked_moments g.D.Disk.says c.args.journal.now c.length.new.self c.length.new.self
    (looked g.D.Disk.says c.args.journal.now c.length.new.self c.length.new.self (g.met.D.Disk.only_now c.args.journal.now) c.length.ensures.crash c.length.ensures.time)

pub returns-in_err-make_files-clause-images : goal.returns-in_err-make_files-clause-images
returns-in_err-make_files-clause-images g c =
    made_images g.D.Disk.says c.args.journal.now c.length.new.self c.make_files.new.disk empty_is_sound
    (looked g.D.Disk.says c.args.journal.now c.length.new.self c.length.new.self (g.met.D.Disk.only_now c.args.journal.now) c.length.ensures.crash c.length.ensures.time)
    c.make_files.ensures.crash

pub returns-in_err-make_files-clause-any_moment : goal.returns-in_err-make_files-clause-any_moment
returns-in_err-make_files-clause-any_moment g c =
    made_moments g.D.Disk.says c.args.journal.now c.length.new.self c.make_files.new.disk empty_is_sound
    (looked g.D.Disk.says c.args.journal.now c.length.new.self c.length.new.self (g.met.D.Disk.only_now c.args.journal.now) c.length.ensures.crash c.length.ensures.time)
    c.make_files.ensures.any_moment

pub returns-clause-images : goal.returns-clause-images
returns-clause-images g c =
    made_images g.D.Disk.says c.args.journal.now c.length.new.self c.make_files.new.disk empty_is_sound
    (looked g.D.Disk.says c.args.journal.now c.length.new.self c.length.new.self (g.met.D.Disk.only_now c.args.journal.now) c.length.ensures.crash c.length.ensures.time)
    c.make_files.ensures.crash

pub returns-clause-any_moment : goal.returns-clause-any_moment
returns-clause-any_moment g c =
    made_moments g.D.Disk.says c.args.journal.now c.length.new.self c.make_files.new.disk empty_is_sound
    (looked g.D.Disk.says c.args.journal.now c.length.new.self c.length.new.self (g.met.D.Disk.only_now c.args.journal.now) c.length.ensures.crash c.length.ensures.time)
    c.make_files.ensures.any_moment

pub returns-in_err-length-clause-kept : goal.returns-in_err-length-clause-kept
returns-in_err-length-clause-kept g c = λ files read other. (
  only_looked g.D.Disk.says c.args.journal.now c.length.new.self c.length.new.self c.length.ensures.same
      (looked g.D.Disk.says c.args.journal.now c.length.new.self c.length.new.self (g.met.D.Disk.only_now c.args.journal.now) c.length.ensures.crash c.length.ensures.time),
  refl,
)

pub returns-then-length-ne0-clause-kept : goal.returns-then-length-ne0-clause-kept
returns-then-length-ne0-clause-kept g c = λ files read other. (
  only_looked g.D.Disk.says c.args.journal.now c.length.new.self c.length.new.self c.length.ensures.same
      (looked g.D.Disk.says c.args.journal.now c.length.new.self c.length.new.self (g.met.D.Disk.only_now c.args.journal.now) c.length.ensures.crash c.length.ensures.time),
  refl,
)

-- ---- the archive's disk

pub returns-in_err-length-clause-archive_looks : goal.returns-in_err-length-clause-archive_looks
returns-in_err-length-clause-archive_looks g c = looks_at_none g.D.Disk.says c.args.archive.now c.args.archive.now c.args.archive.now (g.met.D.Disk.only_now c.args.archive.now)

pub returns-in_err-length-clause-archive_reads : goal.returns-in_err-length-clause-archive_reads
returns-in_err-length-clause-archive_reads g c = inl (record { kept = λ f read. read; no_more = λ f read. read })

pub returns-then-length-ne0-clause-archive_looks : goal.returns-then-length-ne0-clause-archive_looks
returns-then-length-ne0-clause-archive_looks g c = looks_at_none g.D.Disk.says c.args.archive.now c.args.archive.now c.args.archive.now (g.met.D.Disk.only_now c.args.archive.now)

pub returns-then-length-ne0-clause-archive_reads : goal.returns-then-length-ne0-clause-archive_reads
returns-then-length-ne0-clause-archive_reads g c = inl (record { kept = λ f read. read; no_more = λ f read. read })

pub returns-in_err-sync-clause-archive_looks : goal.returns-in_err-sync-clause-archive_looks
returns-in_err-sync-clause-archive_looks g c =
    looked g.D.Disk.says c.args.archive.now c.sync.new.self c.sync.new.self (g.met.D.Disk.only_now c.args.archive.now) c.sync.ensures.crash c.sync.ensures.time

pub returns-in_err-sync-clause-archive_reads : goal.returns-in_err-sync-clause-archive_reads
returns-in_err-sync-clause-archive_reads g c = inr (disk_fault c.from_residual-in_err-sync.result c.from_residual-in_err-sync.ensures.1, c.in_err-sync.ensures.cause.risen)

pub returns-in_err-make_files-clause-archive_looks : goal.returns-in_err-make_files-clause-archive_looks
returns-in_err-make_files-clause-archive_looks g c =
    looked g.D.Disk.says c.args.archive.now c.sync.new.self c.sync.new.self (g.met.D.Disk.only_now c.args.archive.now) c.sync.ensures.crash c.sync.ensures.time

pub returns-in_err-make_files-clause-archive_reads : goal.returns-in_err-make_files-clause-archive_reads
returns-in_err-make_files-clause-archive_reads g c = inl c.in_ok-sync.ensures.same

pub returns-clause-archive_looks : goal.returns-clause-archive_looks
returns-clause-archive_looks g c =
    looked g.D.Disk.says c.args.archive.now c.sync.new.self c.sync.new.self (g.met.D.Disk.only_now c.args.archive.now) c.sync.ensures.crash c.sync.ensures.time

pub returns-clause-archive_reads : goal.returns-clause-archive_reads
returns-clause-archive_reads g c = inl c.in_ok-sync.ensures.same

-- ---- what both tell

pub returns-in_err-length-clause-journal_told : goal.returns-in_err-length-clause-journal_told
returns-in_err-length-clause-journal_told g c f read = (f, c.length.ensures.same.kept f read)

pub returns-in_err-length-clause-archive_told : goal.returns-in_err-length-clause-archive_told
returns-in_err-length-clause-archive_told g c f read = (f, read)

pub returns-then-length-ne0-clause-journal_told : goal.returns-then-length-ne0-clause-journal_told
returns-then-length-ne0-clause-journal_told g c f read = (f, c.length.ensures.same.kept f read)

pub returns-then-length-ne0-clause-archive_told : goal.returns-then-length-ne0-clause-archive_told
returns-then-length-ne0-clause-archive_told g c f read = (f, read)

pub returns-in_err-sync-clause-journal_told : goal.returns-in_err-sync-clause-journal_told
returns-in_err-sync-clause-journal_told g c f read = (f, c.length.ensures.same.kept f read)

pub returns-in_err-make_files-clause-journal_told : goal.returns-in_err-make_files-clause-journal_told
returns-in_err-make_files-clause-journal_told g c f read = c.make_files.ensures.told f (c.length.ensures.same.kept f read)

pub returns-clause-journal_told : goal.returns-clause-journal_told
returns-clause-journal_told g c f read = c.make_files.ensures.told f (c.length.ensures.same.kept f read)

-- ---- the counts

pub returns-in_err-length-clause-unfailed : goal.returns-in_err-length-clause-unfailed
returns-in_err-length-clause-unfailed g c = λ other. absurd (other (disk_fault c.from_residual.result c.from_residual.ensures.1))

pub returns-then-length-ne0-clause-unfailed : goal.returns-then-length-ne0-clause-unfailed
returns-then-length-ne0-clause-unfailed g c = λ other. (c.in_ok-length.ensures.only, refl)

pub returns-in_err-sync-clause-unfailed : goal.returns-in_err-sync-clause-unfailed
returns-in_err-sync-clause-unfailed g c = λ other. absurd (other (disk_fault c.from_residual-in_err-sync.result c.from_residual-in_err-sync.ensures.1))

pub returns-in_err-make_files-clause-unfailed : goal.returns-in_err-make_files-clause-unfailed
returns-in_err-make_files-clause-unfailed g c = λ other. absurd (other (disk_fault c.from_residual-in_err-make_files.result c.from_residual-in_err-make_files.ensures.1))

pub returns-clause-unfailed : goal.returns-clause-unfailed
returns-clause-unfailed g c = λ other. (c.in_ok-make_files.ensures.only ∙ c.in_ok-length.ensures.only, c.in_ok-sync.ensures.only)
