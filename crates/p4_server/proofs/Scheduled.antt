-- A depot in files that is opened, asked and closed.
use Rattle.std.proofs.Common.{◌≡◌, ◌≤◌, ◌+◌, ℕ, Bool, true, List, [], length, refl, sym, subst, ◌∙◌, ◌⊎◌, inl, inr, arith}
use Rattle.std.specs.List.{sum}
use Rattle.outside_api.specs.Count.{HasRisen}
use Rattle.depot_rows.specs.depot_model.declared.order.Place.{Place}
use Rattle.session_loop.specs.Served.{AreCaused, fault_count}
use Rattle.archive_file.specs.Archive as archives
use Rattle.outside_api.specs.Disk.{Files}
use Rattle.outside_api.specs.Says.{DiskSays}
use Rattle.depot_rows.specs.depot_model.Deeds.{Deed}
use Rattle.depot_rows.specs.depot_model.Places.{Placed}
use Rattle.depot_rows.specs.Standing.{Stand}
use Rattle.disk_journal.specs.Images.{Committed, HasCommitted}
use Rattle.disk_journal.specs.Stands.{nothing, disk_of}
use Rattle.depot_rows.specs.db_records.declared.table.TableId.TheVariants.{Rev}
use Rattle.depot_rows.specs.table_changes.Changed.{rows_of}
use Rattle.recovery.specs.Holding.{Hold, spots_end}
use Rattle.recovery.specs.Opening.{IsOpen, HasSynced}
use Rattle.recovery.specs.Rules.{DeletesAreUnplaced}
use Rattle.recovery.specs.Standing.{StandFor}
use Rattle.recovery.specs.declared.open.Opened.{Opened}
use Rattle.party_threads.specs.depot_commit.Holding.{AllHaveContents, KeepContents, StandsWith}
use Rattle.replica_turns.specs.Master.{CanBeFollowed, Past}
use Rattle.replica_turns.specs.Written.{AreWritten, Leave, PairGoesOn}
use Rattle.replica_turns.proofs.Exits.{leaves_written, pair_stands}
use Rattle.party_threads.specs.serial_depot.Running.{CanTake, HasRun}
use Rattle.party_threads.specs.serial_depot.declared.depot.SerialDepot.{SerialDepot}
use Rattle.party_threads.proofs.depot_commit.Kept.{kept_leads, kept_now}
use Rattle.party_threads.proofs.depot_commit.Places.{kept_whole}
use Rattle.end_lines.specs.declared.cause.Cause.{Cause}
use Rattle.end_lines.specs.declared.cause.Cause.TheVariants as causes
use Rattle.p4_server.specs.declared.ended.PartyEnd.{PartyEnd}
use Rattle.p4_server.specs.declared.party.NotRun.{NotRun}
use Rattle.p4_server.specs.declared.party.NotRun.TheVariants.{Doors, Memory}
use Rattle.p4_server.specs.Files.{IsStart, HasOpened, PairIsKept}
use Rattle.p4_server.specs.Headline.{AreEnds, IsRunFrom, Ordering}
use Rattle.p4_server.specs.Outside.{After, Before, Outside}
use Rattle.p4_server.specs.Runs.{AreKept, IsRun, IsShut, unrun_cause}
use Rattle.p4_server.specs.Telling.{IsReport, IsToldAlone, IsUntold}
use Rattle.p4_server.proofs.FaultPlaces.{caused_since, risen_since, rose_since}
use Rattle.p4_server.proofs.Contents.{contents_opened, deletes_opened}
use Rattle.p4_server.proofs.Openings.{read_at_start}
use Rattle.step_limits.specs.Limits.{generation_in}

module _ {D : Type 0} (disk_says : DiskSays D) where
  abbrev pub depot_of : Opened D → SerialDepot D
  depot_of opened = record { tables = opened.tables; journal = opened.journal; archive = opened.archive }

  -- the generation of files that are opened is the one that their depot tells
  generation_at : (journal archive : D) (opened : Opened D) (was : Committed) → IsOpen disk_says was opened
      → ((files : Files) → disk_says.seen journal files → disk_says.may_leave (disk_of opened.journal) files) → (d : List Deed) → IsStart disk_says journal archive d → generation_in d ≡ was.generation
  generation_at journal archive opened was is images d start =
      let here : HasCommitted was start.journal_files = is.stands.holds start.journal_files (images start.journal_files start.journal_reads) in
      start.stand.generation ∙ (sym start.stand.committed.root ∙ here.root)

  -- when the files are opened, no command was taken
  pub has_opened : (journal archive : D) (opened : Opened D) (was : Committed) → IsOpen disk_says was opened
      → ((files : Files) → disk_says.seen journal files → disk_says.may_leave (disk_of opened.journal) files)
      → ((image : Files) → disk_says.left_since (disk_of opened.journal) (disk_says.moment (disk_of opened.journal)) image → disk_says.may_leave (disk_of opened.journal) image)
      → (d : List Deed) → IsStart disk_says journal archive d → Stand (rows_of opened.tables) d → ((files : Files) × disk_says.seen (archives.disk_of opened.archive) files)
      → DeletesAreUnplaced (rows_of opened.tables Rev) → AllHaveContents (disk_says.may_leave (archives.disk_of opened.archive)) (rows_of opened.tables) d
      → HasRun disk_says (depot_of opened) (disk_says.moment (disk_of opened.journal)) d []
  has_opened journal archive opened was is images now d start stand tells deletes contents =
      let generation = generation_at journal archive opened was is images d start in
      let used : archives.used_of opened.archive ≡ spots_end (rows_of opened.tables Rev) = is.used ∙ is.archive_end in
      let kept : KeepContents (disk_says.may_leave (archives.disk_of opened.archive)) (archives.used_of opened.archive) (rows_of opened.tables) d = record { ends = omega (arith, used); deletes = deletes; contents = contents } in
      record {
        tells = tells;
        over = record {
          was = was;
          doubt = nothing;
          stands = is.stands;
          has = is.rows;
          stand = stand;
          generation = generation;
          kept = kept;
          in_doubt = tt;
          later = omega arith;
          any_moment = λ image left. (
            0,
            omega arith,
            inl (record {
              was = was;
              committed = is.stands.holds image (now image left);
              rows = rows_of opened.tables;
              has = is.rows;
              stand = stand;
              generation = generation;
              kept = kept;
            }),
          );
        };
      }

  -- commands can be taken then
  pub can_take : (archive : D) (opened : Opened D) (depot : SerialDepot D) → depot ≡ depot_of opened → ((was : Committed) × IsOpen disk_says was opened)
      → HasSynced disk_says archive (archives.disk_of opened.archive) → ((files : Files) → disk_says.seen archive files → opened.tables.archive_end ≤ length (files 0)) → CanTake disk_says depot
  can_take archive opened depot is opening synced within =
      let P : SerialDepot D → Type 0 = CanTake disk_says in
      let used : archives.used_of opened.archive ≡ opened.tables.archive_end = opening.1.used in
      subst P (sym is) (record {
        was = opening.0;
        doubt = nothing;
        stands = opening.1.stands;
        end = sym used;
        room = λ image left. let le = within image (read_at_start disk_says archive (archives.disk_of opened.archive) synced image left) in omega (arith, used, le);
      })

  -- the same of the depot that is made of them
  pub begins : (journal archive : D) (opened : Opened D) (depot : SerialDepot D) → depot ≡ depot_of opened → ((was : Committed) × IsOpen disk_says was opened)
      → HasSynced disk_says journal (disk_of opened.journal) → HasSynced disk_says archive (archives.disk_of opened.archive)
      → ((disk : D) (files : Files) → disk_says.seen disk files → disk_says.may_leave disk files) → ((disk : D) (files : Files) → disk_says.left_since disk (disk_says.moment disk) files → disk_says.may_leave disk files)
      → ((disk : D) (one other : Files) → disk_says.seen disk one → disk_says.seen disk other → (file : ℕ) → one file ≡ other file)
      → ((j : Files) → disk_says.seen journal j → Hold j (rows_of opened.tables)) → ((j a : Files) (d : List Deed) → disk_says.seen journal j → disk_says.seen archive a → StandFor d j a → Stand (rows_of opened.tables) d)
      → (d : List Deed) → IsStart disk_says journal archive d → HasRun disk_says depot (disk_says.moment (disk_of opened.journal)) d []
  begins journal archive opened depot is opening synced archive_synced reads now one held stands d start =
      let P : SerialDepot D → Type 0 = λ s. HasRun disk_says s (disk_says.moment (disk_of opened.journal)) d [] in
      subst P (sym is) (has_opened journal archive opened opening.0 opening.1 (λ files read. reads (disk_of opened.journal) files (synced.same.kept files read)) (now (disk_of opened.journal)) d start
      (stands start.journal_files start.archive_files d start.journal_reads start.archive_reads start.stand)
      (start.archive_files, archive_synced.same.kept start.archive_files start.archive_reads)
      (deletes_opened start.journal_files start.archive_files (rows_of opened.tables) d start.stand (held start.journal_files start.journal_reads))
      (λ image left. contents_opened start.journal_files start.archive_files image (rows_of opened.tables) d start.stand (held start.journal_files start.journal_reads)
      (one archive image start.archive_files (read_at_start disk_says archive (archives.disk_of opened.archive) archive_synced image left) start.archive_reads 0)))

  -- each pair of images of a depot that has run is kept for all places
  pub kept_at : (depot : SerialDepot D) (since : ℕ) (d : List Deed) (places : List Placed) → HasRun disk_says depot since d places
      → (j a : Files) → disk_says.may_leave (disk_of depot.journal) j → disk_says.may_leave (archives.disk_of depot.archive) a → PairIsKept d places (length places) j a
  kept_at depot since d places ran j a j_left a_left =
      let images = disk_says.may_leave (archives.disk_of depot.archive) in
      let used = archives.used_of depot.archive in
      kept_leads (StandsWith images used j) (λ e. StandFor e j a) (pair_stands images used j a a_left) d places (length places)
      (kept_whole (StandsWith images used j) d places
      (kept_now images used ran.over.was (rows_of depot.tables) d places ran.over.has ran.over.stand ran.over.generation ran.over.kept ran.over.doubt ran.over.in_doubt j (ran.over.stands.holds j j_left)))

  -- and each of those of some moment since, for some of the first
  pub kept_since : (depot : SerialDepot D) (since : ℕ) (d : List Deed) (places : List Placed) → HasRun disk_says depot since d places
      → (j a : Files) → disk_says.left_since (disk_of depot.journal) since j → disk_says.may_leave (archives.disk_of depot.archive) a → (k : ℕ) × (k ≤ length places) × PairIsKept d places k j a
  kept_since depot since d places ran j a j_left a_left =
      let images = disk_says.may_leave (archives.disk_of depot.archive) in
      let used = archives.used_of depot.archive in
      let kept = ran.over.any_moment j j_left in
      (kept.0, kept.1, kept_leads (StandsWith images used j) (λ e. StandFor e j a) (pair_stands images used j a a_left) d places kept.0 kept.2)

-- ---- the end

-- what such a depot leaves, once it is closed, goes on from what was done before
pub leaves_of : {D : Type 0} (disk_says : DiskSays D) (journal archive : D) (depot : SerialDepot D) (since : ℕ) → journal ≡ disk_of depot.journal → archive ≡ archives.disk_of depot.archive → (d : List Deed) (places : List Placed) → HasRun disk_says depot since d places
    → (past : Past) → CanBeFollowed disk_says past d places depot → Leave disk_says journal archive (PairGoesOn past d places)
leaves_of disk_says journal archive depot since is archive_is d places ran past followed = rw (is, archive_is) (leaves_written disk_says past d places since depot ran followed.0 followed.1)

module _ {D S K H : Type 0} (outside : Outside D S K H) (old_doors new_doors : H) (before : Before D K) (after : After D S K) (IsOrdered : Ordering) (names : List (List ℕ)) where
  abbrev Kept : D → List Deed → List Placed → Type 0
  Kept opened d places = AreKept outside old_doors new_doors before after IsOrdered names opened d places

  -- what a depot that has run leaves, once it is closed
  pub are_kept : (depot : SerialDepot D) (opened : D) → after.ended.journal ≡ disk_of depot.journal → after.ended.archive ≡ archives.disk_of depot.archive → (d : List Deed) (places : List Placed) → HasRun outside.disk depot (outside.disk.moment opened) d places → Kept opened d places
  are_kept depot opened is archive_is d places ran = record {
    exit = λ j a j_left a_left. kept_at outside.disk depot (outside.disk.moment opened) d places ran j a (rw is at j_left) (rw archive_is at a_left);
    any_moment = λ j a j_left a_left. kept_since outside.disk depot (outside.disk.moment opened) d places ran j a (rw is at j_left) (rw archive_is at a_left);
  }

  -- the parties were run over the depot
  pub run_of : (from depot : SerialDepot D) (opened : D) (order : List Place) (lost : Bool) (parties : List (PartyEnd K)) (sources : List S) → after.ended.journal ≡ disk_of depot.journal → after.ended.archive ≡ archives.disk_of depot.archive → HasOpened outside.disk before.journal before.archive opened → after.ended.order ≡ order
      → AreEnds outside.source outside.sink (outside.doors.input old_doors) names parties sources
      → ((d : List Deed) → IsStart outside.disk before.journal before.archive d → IsRunFrom outside.disk outside.source outside.sink outside.may_give (outside.disk.moment opened) d from depot IsOrdered (AreWritten outside.disk before.journal before.archive) (outside.doors.input old_doors) (outside.doors.output old_doors) names order lost parties sources)
      → outside.disk.faults before.journal ≤ outside.disk.faults (disk_of from.journal) → outside.disk.faults before.archive ≤ outside.disk.faults (archives.disk_of from.archive)
      → AreCaused (outside.disk.faults (disk_of from.journal)) (outside.disk.faults (disk_of depot.journal)) (outside.disk.faults (archives.disk_of from.archive)) (outside.disk.faults (archives.disk_of depot.archive)) [] order
      → (lost ≡ true → HasRisen (outside.disk.faults (disk_of from.journal)) (outside.disk.faults (disk_of depot.journal)) ⊎ HasRisen (outside.disk.faults (archives.disk_of from.archive)) (outside.disk.faults (archives.disk_of depot.archive)))
      → IsReport outside.sink before.out after.out after.ended order parties sources lost ⊎ IsUntold after.ended
      → IsRun outside old_doors new_doors before after IsOrdered names
  run_of from depot opened order lost parties sources journal_is archive_is opens order_is ends runs no_fewer contents_no_fewer counts lost_rose told =
      let P : List Place → Type 0 = λ o. (d : List Deed) → IsStart outside.disk before.journal before.archive d → IsRunFrom outside.disk outside.source outside.sink outside.may_give (outside.disk.moment opened) d from depot IsOrdered (AreWritten outside.disk before.journal before.archive) (outside.doors.input old_doors) (outside.doors.output old_doors) names o lost parties sources in
      let all = subst P (sym order_is) runs in
      let faults = outside.disk.faults in
      record {
        parties = parties;
        sources = sources;
        ends = ends;
        opened = opened;
        is_opened = opens;
        lost = lost;
        lost_rose = λ is. rw (journal_is, archive_is)
            (rose_since (faults before.journal) (faults (disk_of from.journal)) (faults (disk_of depot.journal)) (faults before.archive) (faults (archives.disk_of from.archive)) (faults (archives.disk_of depot.archive)) no_fewer contents_no_fewer (lost_rose is));
        run = λ d start. record {
          headline = (all d start).headline;
          ordered = (all d start).ordered;
          told = (all d start).told;
          failures = rw (journal_is, archive_is)
              (risen_since (fault_count after.ended.order + sum (all d start).headline.losses) (faults before.journal) (faults (disk_of from.journal)) (faults (disk_of depot.journal)) (faults before.archive) (faults (archives.disk_of from.archive)) (faults (archives.disk_of depot.archive)) no_fewer contents_no_fewer (all d start).failures);
          kept = are_kept depot opened journal_is archive_is d _ (all d start).ran;
          goes_on = λ past w. leaves_of outside.disk after.ended.journal after.ended.archive depot (outside.disk.moment opened) journal_is archive_is d _ (all d start).ran past ((all d start).followed past w);
        };
        fault_places = rw (journal_is, archive_is, order_is)
            (caused_since (faults before.journal) (faults (disk_of from.journal)) (faults (disk_of depot.journal)) (faults before.archive) (faults (archives.disk_of from.archive)) (faults (archives.disk_of depot.archive)) order no_fewer contents_no_fewer counts);
        told = elim told [ inl report ↦ inl (report.parties_are, report.sources_are, report.told) | inr untold ↦ inr untold ];
      }

  -- no party was run
  pub shut_of : (depot : SerialDepot D) (opened : D) → after.ended.journal ≡ disk_of depot.journal → after.ended.archive ≡ archives.disk_of depot.archive → HasOpened outside.disk before.journal before.archive opened
      → IsToldAlone outside.sink before.out after.out after.ended → ((after.ended.cause ≡ causes.Fault) × HasRisen (outside.doors.faults old_doors) (outside.doors.faults new_doors)) ⊎ (after.ended.cause ≡ causes.Memory)
      → ((d : List Deed) → IsStart outside.disk before.journal before.archive d → HasRun outside.disk depot (outside.disk.moment opened) d [])
      → ((d : List Deed) → IsStart outside.disk before.journal before.archive d → HasRun outside.disk depot (outside.disk.moment opened) d [] → (past : Past) → AreWritten outside.disk before.journal before.archive past → CanBeFollowed outside.disk past d [] depot)
      → IsShut outside old_doors new_doors before after IsOrdered names
  shut_of depot opened is archive_is opens told why runs follows = record {
    told = told;
    why = why;
    opened = opened;
    is_opened = opens;
    kept = λ d start. are_kept depot opened is archive_is d [] (runs d start);
    goes_on = λ d start past w. leaves_of outside.disk after.ended.journal after.ended.archive depot (outside.disk.moment opened) is archive_is d [] (runs d start) past (follows d start (runs d start) past w);
  }

-- why the parties weren't run
pub why_unrun : (cause : Cause) (before now : ℕ) (why : NotRun) → cause ≡ unrun_cause why → (why ≡ Doors → HasRisen before now) → ((cause ≡ causes.Fault) × HasRisen before now) ⊎ (cause ≡ causes.Memory)
why_unrun cause before now Doors is risen = inl (is, risen refl)
why_unrun cause before now Memory is risen = inr is
