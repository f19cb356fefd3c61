-- What the faults of opening lead to.
use Rattle.std.proofs.Common.{◌≡◌, ◌≢◌, ◌⊎◌, List, length, refl, sym, ap, ◌∙◌, inl, inr, ⊎_elim, arith}
use Rattle.outside_api.specs.Disk.{Files, NoMore, StillTells}
use Rattle.outside_api.specs.Moments.{LeavesOnly}
use Rattle.outside_api.specs.Says.{DiskSays, SinkSays}
use Rattle.depot_rows.specs.depot_model.Deeds.{Deed}
use Rattle.recovery.specs.Damage.{IsDamage}
use Rattle.recovery.specs.Faults.{SaysNothing, Tells}
use Rattle.recovery.specs.Looking.{AreCauses}
use Rattle.disk_journal.specs.Stands.{disk_of}
use Rattle.depot_rows.specs.table_changes.Changed.{rows_of}
use Rattle.recovery.specs.Contents.{HoldWhole}
use Rattle.recovery.specs.Opening.{HasSynced, LooksOnly}
use Rattle.recovery.specs.Standing.{StandFor}
use Rattle.recovery.specs.declared.open.Opened.{Opened}
use Rattle.recovery.specs.declared.fault.OpenFault.{OpenFault}
use Rattle.recovery.specs.declared.fault.OpenFault.TheVariants.{Unmade, Damaged, DiskFault, Memory}
use Rattle.end_lines.specs.Causes.{cause_by}
use Rattle.end_lines.specs.declared.cause.Cause.TheVariants as causes
use Rattle.p4_server.specs.Files.{IsStart, DiskRose, BothSynced, HasOpened}
use Rattle.p4_server.specs.Telling.{IsToldAlone}
use Rattle.p4_server.specs.Opening.{IsUnmade, IsDamaged, IsUnread, IsUnopened}
use Rattle.p4_server.specs.Outside.{After, Before}

module _ {D S K : Type 0} (disk_says : DiskSays D) (sink_says : SinkSays K) (before : Before D K) (after : After D S K) where
  abbrev pub Why : Type 0
  Why = IsUnmade disk_says sink_says before after
      ⊎ (IsDamaged disk_says sink_says before after
      ⊎ (IsUnread disk_says sink_says before after ⊎ (after.ended.cause ≡ causes.Memory)))

  pub why_of : (fault : OpenFault) → after.ended.cause ≡ cause_by fault
      → ((files : Files) → disk_says.seen before.journal files → fault ≡ Unmade → length (files 0) ≡ 0)
      → ((files : Files) → disk_says.seen before.journal files → length (files 0) ≡ 0 → (fault ≡ Unmade) ⊎ SaysNothing fault)
      → ((j a : Files) (d : List Deed) → disk_says.seen before.journal j → disk_says.seen before.archive a → StandFor d j a → SaysNothing fault)
      → ((j a : Files) → disk_says.seen before.journal j → disk_says.seen before.archive a → Tells (IsDamage j a) fault)
      → AreCauses (disk_says.faults before.journal) (disk_says.faults after.ended.journal) (disk_says.faults before.archive) (disk_says.faults after.ended.archive) (fault ≡ DiskFault)
      → (fault ≢ DiskFault → BothSynced disk_says before after)
      → Why
  why_of Unmade is unmade exactly stands damaged causes synced = inl (record { cause_is = is; was_empty = λ files reads. unmade files reads refl; synced = synced (λ (e : Unmade ≡ DiskFault). absurd cc) })
  why_of (Damaged disk file place) is unmade exactly stands damaged causes synced = inr (inl (record {
    disk = disk;
    file = file;
    place = place;
    cause_is = is;
    damage = damaged;
    was_there = λ files reads empty. ⊎_elim (λ (e : Damaged disk file place ≡ Unmade). absurd cc) (λ says. says) (exactly files reads empty);
    stands_for_none = λ j a d j_reads a_reads stand. stands j a d j_reads a_reads stand;
    synced = synced (λ (e : Damaged disk file place ≡ DiskFault). absurd cc);
  }))
  why_of DiskFault is unmade exactly stands damaged causes synced = inr (inr (inl (record { cause_is = is; risen = causes.risen refl })))
  why_of Memory is unmade exactly stands damaged causes synced = inr (inr (inr is))

  -- a fault comes only where a count rose
  pub fault_of_unopened : Why → after.ended.cause ≡ causes.Fault → DiskRose disk_says before after
  fault_of_unopened (inl unmade) is = let clash : causes.Unmade ≡ causes.Fault = sym unmade.cause_is ∙ is in absurd cc
  fault_of_unopened (inr (inl damaged)) is = let clash : causes.Damaged damaged.disk damaged.file damaged.place ≡ causes.Fault = sym damaged.cause_is ∙ is in absurd cc
  fault_of_unopened (inr (inr (inl unread))) is = unread.risen
  fault_of_unopened (inr (inr (inr memory))) is = let clash : causes.Memory ≡ causes.Fault = sym memory ∙ is in absurd cc

  -- files that stand for a depot are opened, unless a count rises or memory is wanting
  pub complete_of_unopened : Why → (d : List Deed) → IsStart disk_says before.journal before.archive d → ¬ DiskRose disk_says before after → after.ended.cause ≡ causes.Memory
  complete_of_unopened (inl unmade) d start quiet =
      let long = start.stand.committed.rest.root.long in
      let short = unmade.was_empty start.journal_files start.journal_reads in
      absurd (omega (arith, long, short))
  complete_of_unopened (inr (inl damaged)) d start quiet = absurd (damaged.stands_for_none start.journal_files start.archive_files d start.journal_reads start.archive_reads start.stand)
  complete_of_unopened (inr (inr (inl unread))) d start quiet = absurd (quiet unread.risen)
  complete_of_unopened (inr (inr (inr memory))) d start quiet = memory

module _ {D S K : Type 0} (disk_says : DiskSays D) (sink_says : SinkSays K) (before : Before D K) (left_journal left_archive : D) (after : After D S K)
    (journal_is : after.ended.journal ≡ left_journal) (archive_is : after.ended.archive ≡ left_archive) where
  -- the run of files that weren't opened
  pub unopened_of : (fault : OpenFault) → IsToldAlone sink_says before.out after.out after.ended → after.ended.cause ≡ cause_by fault
      → StillTells (disk_says.seen before.journal) (disk_says.seen left_journal) → StillTells (disk_says.seen before.archive) (disk_says.seen left_archive)
      → NoMore (disk_says.may_leave before.journal) (disk_says.may_leave left_journal) → NoMore (disk_says.may_leave before.archive) (disk_says.may_leave left_archive) → LeavesOnly disk_says before.journal left_journal (disk_says.may_leave before.journal) → LeavesOnly disk_says before.archive left_archive (disk_says.may_leave before.archive)
      → ((files : Files) → disk_says.seen before.journal files → fault ≡ Unmade → length (files 0) ≡ 0)
      → ((files : Files) → disk_says.seen before.journal files → length (files 0) ≡ 0 → (fault ≡ Unmade) ⊎ SaysNothing fault)
      → ((j a : Files) (d : List Deed) → disk_says.seen before.journal j → disk_says.seen before.archive a → StandFor d j a → SaysNothing fault)
      → ((j a : Files) → disk_says.seen before.journal j → disk_says.seen before.archive a → Tells (IsDamage j a) fault)
      → AreCauses (disk_says.faults before.journal) (disk_says.faults left_journal) (disk_says.faults before.archive) (disk_says.faults left_archive) (fault ≡ DiskFault)
      → (fault ≢ DiskFault → HasSynced disk_says before.journal left_journal × HasSynced disk_says before.archive left_archive)
      → (fault ≢ DiskFault → (disk_says.faults left_journal ≡ disk_says.faults before.journal) × (disk_says.faults left_archive ≡ disk_says.faults before.archive))
      → IsUnopened disk_says sink_says before after
  unopened_of fault told is journal_told archive_told journal_images archive_images any_moment archive_any_moment unmade exactly stands damaged causes synced unfailed = record {
    told = told;
    journal_told = rw journal_is journal_told;
    archive_told = rw archive_is archive_told;
    journal_images = rw journal_is journal_images;
    archive_images = rw archive_is archive_images;
    any_moment = rw journal_is any_moment;
    archive_any_moment = rw archive_is archive_any_moment;
    why = why_of disk_says sink_says before after fault is unmade exactly stands damaged (rw (journal_is, archive_is) causes)
        (λ other. let both = synced other in record { journal = rw journal_is both.0; archive = rw archive_is both.1 });
    stand = λ other.
        let stood = unfailed (λ failed. other (is ∙ ap cause_by failed)) in
        record { journal = ap disk_says.faults journal_is ∙ stood.0; archive = ap disk_says.faults archive_is ∙ stood.1 };
  }

-- a crash leaves what a disk that was only read and synced read at the start
pub read_at_start : {D : Type 0} (disk_says : DiskSays D) (old new : D) → HasSynced disk_says old new → NoMore (disk_says.seen old) (disk_says.may_leave new)
read_at_start disk_says old new synced image left = synced.same.no_more image (synced.durable image left)

-- the disk of a journal of files that are opened
pub opened_of : {D : Type 0} (disk_says : DiskSays D) (journal archive : D) (opened : Opened D) → ((files : Files) → disk_says.seen journal files → length (files 0) ≢ 0)
    → ((j a : Files) → disk_says.seen journal j → disk_says.seen archive a → HoldWhole j a (rows_of opened.tables)) → LooksOnly disk_says journal (disk_of opened.journal) → HasSynced disk_says journal (disk_of opened.journal)
    → HasOpened disk_says journal archive (disk_of opened.journal)
opened_of disk_says journal archive opened there whole looks synced = record {
  was_there = there;
  whole = λ j a j_reads a_reads. (rows_of opened.tables, whole j a j_reads a_reads);
  looked = looks;
  durable = read_at_start disk_says journal (disk_of opened.journal) synced;
}
