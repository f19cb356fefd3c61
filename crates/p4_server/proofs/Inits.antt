-- How the making of files leads to what an init promises.
use Rattle.std.proofs.Common.{◌≡◌, ◌≢◌, ◌⊎◌, inl, inr, [], length, Result, Ok, Err, refl, sym, ap, subst, ◌∙◌}
use Rattle.std.specs.Prelude.{OnOk}
use Rattle.outside_api.specs.Count.{HasRisen}
use Rattle.outside_api.specs.Disk.{Files, After as AfterStep, Follows, Same, StillTells}
use Rattle.outside_api.specs.Moments.{LeavesOnly}
use Rattle.outside_api.specs.Says.{DiskSays, SinkSays}
use Rattle.disk_journal.specs.Images.{HasCommitted}
use Rattle.disk_journal.specs.Made.{SameOthers, made as made_files}
use Rattle.recovery.specs.Looking.{OnlyReads, AreCauses}
use Rattle.recovery.specs.Making.{IsMaking}
use Rattle.recovery.specs.Opening.{LooksOnly}
use Rattle.recovery.specs.Standing.{StandFor}
use Rattle.recovery.specs.declared.fault.MakeFault.{MakeFault}
use Rattle.recovery.specs.declared.fault.MakeFault.TheVariants.{Made, DiskFault}
use Rattle.p4_server.specs.Init.{cause_by, IsInited, IsThere, IsFailed, Inits}
use Rattle.p4_server.specs.Outside.{After, Before}
use Rattle.p4_server.specs.Telling.{IsToldAlone}
use Rattle.p4_server.proofs.Writtens.{made_written}

module _ {D S K : Type 0} (disk_says : DiskSays D) (sink_says : SinkSays K) (before : Before D K) (left_journal left_archive : D) (after : After D S K)
    (journal_is : after.ended.journal ≡ left_journal) (archive_is : after.ended.archive ≡ left_archive) (looks : LooksOnly disk_says before.archive left_archive) where
  abbrev Ends : Type 0
  Ends = IsInited disk_says sink_says before after
      ⊎ (IsThere disk_says sink_says before after
      ⊎ IsFailed disk_says sink_says before after)

  -- a disk that was left alone was only looked at
  only_read : left_archive ≡ before.archive → OnlyReads disk_says before.archive left_archive
  only_read same = record {
    same = record { kept = λ f read. subst (λ (disk : D). disk_says.seen disk f) (sym same) read; no_more = λ f read. subst (λ (disk : D). disk_says.seen disk f) same read };
    no_more = looks.no_more;
    any_moment = looks.any_moment;
  }

  ends_of : (made : Result (Unit {0}) MakeFault) → after.ended.cause ≡ cause_by made
      → OnOk made ((image : Files) → disk_says.may_leave left_journal image → HasCommitted made_files image)
      → OnOk made ((image contents : Files) → disk_says.may_leave left_journal image → StandFor [] image contents)
      → ((files : Files) → disk_says.seen before.journal files → OnOk made (length (files 0) ≡ 0))
      → ((files : Files) → disk_says.seen before.journal files → made ≡ Err Made → length (files 0) ≢ 0)
      → (made ≡ Err Made → OnlyReads disk_says before.journal left_journal × (left_archive ≡ before.archive))
      → OnOk made (Follows SameOthers (disk_says.seen before.journal) (disk_says.may_leave left_journal))
      → AreCauses (disk_says.faults before.journal) (disk_says.faults left_journal) (disk_says.faults before.archive) (disk_says.faults left_archive) (made ≡ Err DiskFault)
      → Ends
  ends_of (Ok done) is committed stand unmade there untouched others causes = inl (record {
    cause_is = is;
    was_empty = unmade;
    empty = λ j a journal_left archive_left. stand j a (subst (λ (disk : D). disk_says.may_leave disk j) journal_is journal_left);
    written = λ j a journal_left archive_left. made_written j a (committed j (subst (λ (disk : D). disk_says.may_leave disk j) journal_is journal_left));
    others = rw journal_is others;
  })
  ends_of (Err Made) is committed stand unmade there untouched others causes = inr (inl (record {
    cause_is = is;
    was_there = λ files read. there files read refl;
    untouched = record { journal = rw journal_is (untouched refl).0; archive = rw archive_is (only_read (untouched refl).1) };
  }))
  ends_of (Err DiskFault) is committed stand unmade there untouched others causes = inr (inr (record { cause_is = is; risen = rw (journal_is, archive_is) (causes.risen refl) }))

  pub inits_of : (made : Result (Unit {0}) MakeFault) → IsToldAlone sink_says before.out after.out after.ended → after.ended.cause ≡ cause_by made
      → OnOk made ((image : Files) → disk_says.may_leave left_journal image → HasCommitted made_files image)
      → OnOk made ((image contents : Files) → disk_says.may_leave left_journal image → StandFor [] image contents)
      → ((files : Files) → disk_says.seen before.journal files → OnOk made (length (files 0) ≡ 0))
      → ((files : Files) → disk_says.seen before.journal files → made ≡ Err Made → length (files 0) ≢ 0)
      → (made ≡ Err Made → OnlyReads disk_says before.journal left_journal × (left_archive ≡ before.archive))
      → OnOk made (Follows SameOthers (disk_says.seen before.journal) (disk_says.may_leave left_journal))
      → AreCauses (disk_says.faults before.journal) (disk_says.faults left_journal) (disk_says.faults before.archive) (disk_says.faults left_archive) (made ≡ Err DiskFault)
      → StillTells (disk_says.seen before.journal) (disk_says.seen left_journal) → StillTells (disk_says.seen before.archive) (disk_says.seen left_archive)
      → Follows IsMaking (disk_says.may_leave before.journal) (disk_says.may_leave left_journal)
      → LeavesOnly disk_says before.journal left_journal (AfterStep IsMaking (disk_says.may_leave before.journal))
      → Same (disk_says.seen before.archive) (disk_says.seen left_archive) ⊎ ((made ≡ Err DiskFault) × HasRisen (disk_says.faults before.archive) (disk_says.faults left_archive))
      → (made ≢ Err DiskFault → (disk_says.faults left_journal ≡ disk_says.faults before.journal) × (disk_says.faults left_archive ≡ disk_says.faults before.archive))
      → ((files : Files) → disk_says.seen before.journal files → length (files 0) ≢ 0 → OnlyReads disk_says before.journal left_journal × (left_archive ≡ before.archive))
      → Inits disk_says sink_says before after
  inits_of made told is committed stand unmade there untouched others causes journal_told archive_told images any_moment reads unfailed kept = record {
    told = told;
    ends = ends_of made is committed stand unmade there untouched others causes;
    disks = record {
      journal_told = rw journal_is journal_told;
      archive_told = rw archive_is archive_told;
      journal_images = rw journal_is images;
      any_moment = rw journal_is any_moment;
      archive_looks = rw archive_is looks;
      archive_reads = elim reads [ inl same ↦ inl (rw archive_is same) | inr failed ↦ inr (is ∙ ap cause_by failed.0, rw archive_is failed.1) ];
      kept = λ files read some. record { journal = rw journal_is (kept files read some).0; archive = rw archive_is (only_read (kept files read some).1) };
    };
    stand = λ other.
        let stood = unfailed (λ failed. other (is ∙ ap cause_by failed)) in
        record { journal = ap disk_says.faults journal_is ∙ stood.0; archive = ap disk_says.faults archive_is ∙ stood.1 };
  }
