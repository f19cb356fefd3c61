-- What the mode `checkpoint` promises, by how it ends.
use Rattle.std.proofs.Common.{◌≡◌, ◌≢◌, ◌≤◌, ℕ, true, false, List, [], length, Option, None, refl, sym, subst, ◌∙◌, inl, inr}
use Rattle.std.specs.Prelude.{IfSome}
use Rattle.archive_file.specs.Archive as archives
use Rattle.outside_api.specs.Disk.{Files}
use Rattle.outside_api.specs.Moments.{LeavesOnly}
use Rattle.outside_api.specs.Says.{DiskSays, SinkSays}
use Rattle.checkpoint_file.specs.Generations.{IsOfDepot}
use Rattle.depot_checkpoint.specs.Taking.{CanBegin, HasBegun, MayHaveBegun, StandsBeforeOrAfter, checkpointed, next_generation}
use Rattle.depot_checkpoint.specs.declared.fault.TakingFault.{TakingFault}
use Rattle.depot_checkpoint.specs.declared.fault.TakingFault.TheVariants as taking_faults
use Rattle.depot_checkpoint.proofs.Checkpoints.{stands_before}
use Rattle.depot_rows.specs.depot_model.Deeds.{Deed}
use Rattle.depot_rows.specs.Standing.{Stand}
use Rattle.disk_journal.specs.Images.{Committed, generation_of}
use Rattle.disk_journal.specs.Stands.{disk_of, generation_of_journal}
use Rattle.disk_journal.specs.declared.journal.Journal.{Journal}
use Rattle.recovery.specs.Contents.{HoldWhole}
use Rattle.recovery.specs.Holding.{Hold}
use Rattle.recovery.specs.Opening.{IsOpen, HasSynced, LooksOnly}
use Rattle.recovery.specs.Standing.{StandFor}
use Rattle.recovery.specs.declared.open.Opened.{Opened}
use Rattle.depot_rows.specs.table_changes.Changed.{rows_of}
use Rattle.end_lines.specs.Lines.{cause_line, generation_line}
use Rattle.end_lines.specs.Telling.{OutGot}
use Rattle.end_lines.specs.declared.cause.Cause.TheVariants as causes
use Rattle.replica_turns.specs.Master.{IsMaster, Past}
use Rattle.replica_turns.specs.Written.{AreWritten, IsWrittenAfter, Leave}
use Rattle.party_threads.specs.serial_depot.Running.{HasRun}
use Rattle.p4_server.specs.Checkpoint.{Checkpoints, IsInDoubt, IsLine, IsPlaced, IsTaken, IsUntaken, one_if}
use Rattle.p4_server.specs.Files.{IsStart, DiskRose, DisksStand, HasOpened}
use Rattle.p4_server.specs.Opening.{IsUnopened}
use Rattle.p4_server.specs.Outside.{After, Before}
use Rattle.p4_server.specs.Telling.{IsUnrun}
use Rattle.p4_server.proofs.Begun.{can_begin, doubt_leaves, opened_leaves, taken_leaves}
use Rattle.p4_server.proofs.Contents.{contents_opened, deletes_opened}
use Rattle.p4_server.proofs.Openings.{fault_of_unopened, complete_of_unopened, opened_of, read_at_start}
use Rattle.p4_server.proofs.Scheduled.{begins, depot_of}
use Rattle.p4_server.proofs.Writtens.{written_master}

-- ---- causes

-- a checkpoint that wasn't taken had no disk, or no memory
pub by_fault : {A : Type 0} → (fault : TakingFault) → (fault ≡ taking_faults.DiskFault → A) → (fault ≡ taking_faults.Memory → A) → A
by_fault taking_faults.DiskFault disk memory = disk refl
by_fault taking_faults.Memory disk memory = memory refl

module _ {D S K : Type 0} (disk_says : DiskSays D) (sink_says : SinkSays K) (may_give : ℕ → Type 0) (before : Before D K) (after : After D S K) where
  abbrev pub Promised : Type 0
  Promised = Checkpoints disk_says sink_says may_give before after

  pub checkpoints_unopened : IsUnopened disk_says sink_says before after → Promised
  checkpoints_unopened unopened = record {
    ends = inl unopened;
    fault = λ is. inl (fault_of_unopened disk_says sink_says before after unopened.why is);
    stand = unopened.stand;
    complete = λ d start quiet. inr (complete_of_unopened disk_says sink_says before after unopened.why d start (λ rose. quiet (inl rose)));
  }

  pub checkpoints_untaken : IsUntaken disk_says sink_says may_give before after → DisksStand disk_says before after → Promised
  checkpoints_untaken untaken stood = record {
    ends = inr (inl untaken);
    fault = λ is. (let clash : causes.Memory ≡ causes.Fault = sym untaken.cause_is ∙ is in absurd cc);
    stand = λ other. stood;
    complete = λ d start quiet. inr untaken.cause_is;
  }

  pub checkpoints_taken : IsTaken disk_says sink_says may_give before after → DisksStand disk_says before after → Promised
  checkpoints_taken taken stood = record {
    ends = inr (inr (inl taken));
    fault = λ is. elim taken.line [
      | inl done ↦ (let clash : causes.Done ≡ causes.Fault = sym done.0 ∙ is in absurd cc)
      | inr failed ↦ inr failed.1
    ];
    stand = λ other. stood;
    complete = λ d start quiet. elim taken.line [ inl done ↦ inl done.0 | inr failed ↦ absurd (quiet (inr failed.1)) ];
  }

  pub checkpoints_in_doubt : IsInDoubt disk_says sink_says may_give before after → Promised
  checkpoints_in_doubt doubt = record {
    ends = inr (inr (inr doubt));
    fault = λ is. inl doubt.risen;
    stand = λ other. absurd (other doubt.cause_is);
    complete = λ d start quiet. absurd (quiet (inl doubt.risen));
  }

-- ---- files that are opened

module _ {D S K : Type 0} (disk_says : DiskSays D) (sink_says : SinkSays K) (may_give : ℕ → Type 0) (before : Before D K) (after : After D S K)
    (opened : Opened D) (opening : (was : Committed) × IsOpen disk_says was opened)
    (synced : HasSynced disk_says before.journal (disk_of opened.journal)) (archive_synced : HasSynced disk_says before.archive (archives.disk_of opened.archive))
    (reads : (disk : D) (files : Files) → disk_says.seen disk files → disk_says.may_leave disk files) (now : (disk : D) (files : Files) → disk_says.left_since disk (disk_says.moment disk) files → disk_says.may_leave disk files)
    (one : (disk : D) (a b : Files) → disk_says.seen disk a → disk_says.seen disk b → (file : ℕ) → a file ≡ b file)
    (there : (files : Files) → disk_says.seen before.journal files → length (files 0) ≢ 0) (whole : (j a : Files) → disk_says.seen before.journal j → disk_says.seen before.archive a → HoldWhole j a (rows_of opened.tables)) (looks : LooksOnly disk_says before.journal (disk_of opened.journal))
    (held : (j : Files) → disk_says.seen before.journal j → Hold j (rows_of opened.tables)) (stands : (j a : Files) (d : List Deed) → disk_says.seen before.journal j → disk_says.seen before.archive a → StandFor d j a → Stand (rows_of opened.tables) d)
    (archive_is : after.ended.archive ≡ archives.disk_of opened.archive) where
  image_at_start : (files : Files) → disk_says.seen before.journal files → disk_says.may_leave (disk_of opened.journal) files
  image_at_start files read = reads (disk_of opened.journal) files (synced.same.kept files read)

  -- the root tells the generation of the journal
  of_root : (files : Files) → disk_says.seen before.journal files → generation_of (files 0) ≡ generation_of_journal opened.journal
  of_root files read = (opening.1.stands.holds files (image_at_start files read)).root ∙ sym opening.1.stands.generation

  is_opened : HasOpened disk_says before.journal before.archive (disk_of opened.journal)
  is_opened = opened_of disk_says before.journal before.archive opened there whole looks synced

  -- each image of the archive's disk has the contents of the depot
  of_depot : (d : List Deed) → IsStart disk_says before.journal before.archive d → (image : Files) → disk_says.may_leave after.ended.archive image → IsOfDepot opening.0 (rows_of opened.tables) d image
  of_depot d start image left =
      let same : image 0 ≡ start.archive_files 0 = one before.archive image start.archive_files (read_at_start disk_says before.archive (archives.disk_of opened.archive) archive_synced image (rw archive_is at left)) start.archive_reads 0 in
      let contents = contents_opened start.journal_files start.archive_files image (rows_of opened.tables) d start.stand (held start.journal_files start.journal_reads) same in
      record {
        has = opening.1.rows;
        stand = stands start.journal_files start.archive_files d start.journal_reads start.archive_reads start.stand;
        deletes = deletes_opened start.journal_files start.archive_files (rows_of opened.tables) d start.stand (held start.journal_files start.journal_reads);
        generation = start.stand.generation ∙ (sym start.stand.committed.root ∙ (opening.1.stands.holds start.journal_files (image_at_start start.journal_files start.journal_reads)).root);
        within = contents.within;
        contents = contents.contents;
      }

  -- the depot of these files has taken no command, and where they were written so replicas may follow it
  runs : (d : List Deed) → IsStart disk_says before.journal before.archive d → HasRun disk_says (depot_of disk_says opened) (disk_says.moment (disk_of opened.journal)) d []
  runs = begins disk_says before.journal before.archive opened (depot_of disk_says opened) refl opening synced archive_synced reads now one held stands

  follows : (d : List Deed) → IsStart disk_says before.journal before.archive d → (past : Past) → AreWritten disk_says before.journal before.archive past → IsMaster disk_says past d [] (depot_of disk_says opened) past.journal
  follows d start = written_master disk_says before.journal before.archive opened opening.0 opening.1 synced archive_synced reads held d start (runs d start)

  -- ---- nothing was done

  pub untaken_of : after.ended.cause ≡ causes.Memory → IsUnrun after.ended → after.ended.journal ≡ disk_of opened.journal
      → IsUntaken disk_says sink_says may_give before after
  untaken_of cause_is unrun journal_is = record {
    cause_is = cause_is;
    unrun = unrun;
    opened = disk_of opened.journal;
    is_opened = is_opened;
    kept = λ d start. record {
      exit = λ j a j_left a_left. at_start d start j a (rw journal_is at j_left) a_left;
      any_moment = λ j a j_left a_left. at_start d start j a (now (disk_of opened.journal) j (rw journal_is at j_left)) a_left;
    };
    goes_on = λ d start past w. rw (journal_is, archive_is)
        (opened_leaves disk_says reads opened opening.0 opening.1 d (disk_says.moment (disk_of opened.journal)) (runs d start) past past.journal (follows d start past w) d
        (λ j a j_left a_left. at_start d start j a j_left (rw archive_is a_left)));
  }
    where
      at_start : (d : List Deed) → IsStart disk_says before.journal before.archive d → (j a : Files) → disk_says.may_leave (disk_of opened.journal) j → disk_says.may_leave after.ended.archive a → StandFor d j a
      at_start d start j a j_left a_left = stands_before opening.0 (rows_of opened.tables) d a (of_depot d start a a_left) j (opening.1.stands.holds j j_left)

  -- ---- the checkpoint was taken, or a disk failed meanwhile

  module _ (left : Journal D) (journal_is : after.ended.journal ≡ disk_of left)
      (any_moment : (d : List Deed) (image : Files) → IsOfDepot opening.0 (rows_of opened.tables) d image → LeavesOnly disk_says (disk_of opened.journal) (disk_of left) (StandsBeforeOrAfter d image)) where
    since : (d : List Deed) → IsStart disk_says before.journal before.archive d → (j a : Files) → disk_says.left_since after.ended.journal (disk_says.moment (disk_of opened.journal)) j → disk_says.may_leave after.ended.archive a → StandsBeforeOrAfter d a j
    since d start j a j_left a_left = (any_moment d a (of_depot d start a a_left)).each j (rw journal_is at j_left)

    pub taken_of : IsPlaced may_give after.ended false → (begun : Option ℕ) → begun ≡ next_generation (generation_of_journal opened.journal)
        → IsLine sink_says before.out after.out after.ended (generation_line begun)
        → ((d : List Deed) (image : Files) → IsOfDepot opening.0 (rows_of opened.tables) d image → (j : Files) → disk_says.may_leave (disk_of left) j → StandFor (checkpointed d) j image)
        → (begun ≡ None → left ≡ opened.journal)
        → ((d : List Deed) (older : List (List (List ℕ))) → CanBegin disk_says opened.journal opening.0 (rows_of opened.tables) d older → IfSome begun (λ n. HasBegun disk_says left opening.0 (rows_of opened.tables) d older))
        → IsTaken disk_says sink_says may_give before after
    taken_of placed begun number line taken none begins = record {
      placed = placed;
      generation = generation_of_journal opened.journal;
      of_root = of_root;
      line = rw number at line;
      opened = disk_of opened.journal;
      is_opened = is_opened;
      kept = λ d start. record {
        exit = λ j a j_left a_left. taken d a (of_depot d start a a_left) j (rw journal_is at j_left);
        any_moment = since d start;
      };
      goes_on = λ d start past w.
          let moment = disk_says.moment (disk_of opened.journal) in
          let can = can_begin disk_says reads opened opening.0 opening.1 d moment (runs d start) past past.journal (follows d start past w) in
          subst (λ (n : Option ℕ). Leave disk_says after.ended.journal after.ended.archive (IsWrittenAfter past d [] (one_if n) (checkpointed d))) number
          (rw (journal_is, archive_is)
          (taken_leaves disk_says reads opened opening.0 opening.1 d moment (runs d start) past past.journal (follows d start past w) left begun none (begins d _ can)
          (λ j a j_left a_left. taken d a (of_depot d start a (rw archive_is a_left)) j j_left)));
    }

    pub in_doubt_of : ((disk : D) (t : ℕ) (files : Files) → t ≤ disk_says.moment disk → disk_says.may_leave disk files → disk_says.left_since disk t files) → IsPlaced may_give after.ended true → after.ended.cause ≡ causes.Fault
        → DiskRose disk_says before after
        → OutGot (sink_says.given before.out) (sink_says.given after.out) (sink_says.faults before.out) (sink_says.faults after.out) (cause_line causes.Fault)
        → ((d : List Deed) (older : List (List (List ℕ))) → CanBegin disk_says opened.journal opening.0 (rows_of opened.tables) d older → MayHaveBegun disk_says left opening.0 (rows_of opened.tables) d older)
        → IsInDoubt disk_says sink_says may_give before after
    in_doubt_of counts_now placed cause_is risen line begins = record {
      placed = placed;
      cause_is = cause_is;
      risen = risen;
      line = line;
      opened = disk_of opened.journal;
      is_opened = is_opened;
      kept = λ d start. record {
        exit = exit d start;
        any_moment = since d start;
      };
      goes_on = λ d start past w.
          let moment = disk_says.moment (disk_of opened.journal) in
          let can = can_begin disk_says reads opened opening.0 opening.1 d moment (runs d start) past past.journal (follows d start past w) in
          rw (journal_is, archive_is)
          (doubt_leaves disk_says reads opened opening.0 opening.1 d moment (runs d start) past past.journal (follows d start past w) left (begins d _ can)
          (λ j a committed a_left. stands_before opening.0 (rows_of opened.tables) d a (of_depot d start a (rw archive_is a_left)) j committed)
          (λ j a j_left a_left. exit d start j a (rw journal_is j_left) (rw archive_is a_left)));
    }
      where
        exit : (d : List Deed) → IsStart disk_says before.journal before.archive d → (j a : Files) → disk_says.may_leave after.ended.journal j → disk_says.may_leave after.ended.archive a → StandsBeforeOrAfter d a j
        exit d start j a j_left a_left =
            let later = (any_moment d a (of_depot d start a a_left)).later in
            since d start j a (counts_now after.ended.journal (disk_says.moment (disk_of opened.journal)) j (rw journal_is later) j_left) a_left
