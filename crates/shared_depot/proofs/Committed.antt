-- What was committed behind a beginning of the order is committed behind the order, where nothing was written between the two.
use Rattle.std.proofs.Common.{◌≡◌, ◌≤◌, ℕ, Bool, true, false, List, [], ◌∷◌, ◌++◌, Result, Ok, Err, map, refl, sym, ap, subst, ◌∙◌, append-nil}
use Rattle.std.specs.Prelude.{if◌then◌else◌, IfOk, OnErr}
use Rattle.std.proofs.lemmas.Bool.{true≢false}
use Rattle.archive_file.specs.Archive.{disk_of as archive_disk_of}
use Rattle.archive_file.specs.declared.archive.Archive.{Archive}
use Rattle.depot_rows.specs.db_records.declared.change.Change.{Change}
use Rattle.depot_rows.specs.db_records.declared.table.TableId.{TableId}
use Rattle.depot_rows.specs.depot_model.Commands.{step}
use Rattle.depot_rows.specs.depot_model.Deeds.{Deed}
use Rattle.depot_rows.specs.depot_model.Places.{Placed, taken}
use Rattle.depot_rows.specs.depot_model.declared.order.Answer.{Answer}
use Rattle.depot_rows.specs.depot_model.declared.request.Request.{Request}
use Rattle.depot_rows.specs.Standing.{Stand}
use Rattle.depot_rows.specs.table_changes.Changed.{AllRows, changed_by, rows_of}
use Rattle.depot_rows.specs.table_store.declared.tables.Tables.{Tables}
use Rattle.disk_journal.specs.declared.journal.Journal.{Journal}
use Rattle.locked_tables.proofs.Placed.{of_archive, of_journal}
use Rattle.locked_tables.specs.Known.{GoesOnWithout, LearnsPlace, PartyKnown}
use Rattle.locked_tables.specs.Placing.{TakesPlace, TouchesLanes}
use Rattle.locked_tables.specs.Taken.{archive_lane, end_after, journal_lane, placed_of, rows_after}
use Rattle.locked_tables.specs.declared.taken.Taken.{Taken}
use Rattle.order_words.specs.Lanes.{has_lane}
use Rattle.order_words.specs.Seats.{Run}
use Rattle.outside_api.specs.Disk.{Files}
use Rattle.outside_api.specs.Says.{DiskSays}
use Rattle.party_marks.specs.declared.mark.Mark.{Mark}
use Rattle.depot_commit.specs.Committing.{AreRowsAfter, IsOutcomeOf}
use Rattle.depot_commit.specs.Growing.{Chronicle, HasGroups, grown}
use Rattle.depot_commit.specs.Opening.{opens_generation}
use Rattle.depot_commit.specs.Placing.{AreCounted, HasLanded, HasRunBeside, StoresBehind}
use Rattle.depot_commit.specs.Running.{CanCommit}
use Rattle.depot_commit.specs.Storing.{HasStored, stores_end}
use Rattle.depot_commit.specs.Telling.{IsReplyOf, IsTold}
use Rattle.depot_commit.specs.command_core.declared.outcome.Outcome.{Outcome}
use Rattle.depot_commit.specs.Holding.{KeepContents}
use Rattle.depot_commit.specs.declared.landing.Landed.{Landed}
use Rattle.depot_commit.specs.declared.telling.Told.{Told}
use Rattle.depot_commit.proofs.Checkpointed.{made_differ}
use Rattle.depot_commit.proofs.Stored.{ends_twice}
use Rattle.session_loop.specs.Taking.{IsProper, placed_by, with_place}
use Rattle.shared_depot.specs.Common.{AreQuiet, GoesOnQuietly, HasRunOrder, IsArchiveAfter, IsCountAfter, IsEntered, IsQuiet, IsWrittenAt, HasFitGroups, KeepsOrder, Masters, WasRun}
use Rattle.shared_depot.specs.Room.{IsDueAfter, IsStoredBehind, IsWritingFor}
use Rattle.shared_depot.specs.Sharing.{ChangesRows}
use Rattle.shared_depot.specs.Stored.{is_lost, is_unwritten, stores_of}
use Rattle.shared_depot.specs.declared.writing.Writing.{Writing}
use Rattle.shared_depot.proofs.Followed.{followed_more, followed_on, written_more}
use Rattle.shared_depot.proofs.Marks.{count_learnt, count_placed, count_quietly}
use Rattle.shared_depot.proofs.Order.{all_rows, archive_then, changed_here, outcome_here, run_more, stored_there}
use Rattle.shared_depot.proofs.Outcomes.{reply_here}
use Rattle.shared_depot.proofs.Quietly.{goes_on_quietly, quiet_more}
use Rattle.shared_depot.proofs.Stored.{lost_of, never_fails, stores_spared, stores_touched, unwritten_only}

module _ {D : Type 0} (disk_says : DiskSays D)
    (rows : AllRows) (end : ℕ) (images : Files → Type 0) (begins : ℕ → List Deed → Type 0) (masters : Masters) where
  abbrev Ran : List Taken → Tables → Journal D → Type 0
  Ran order tables journal = HasRunOrder disk_says rows end images begins masters order tables journal

  module _ (known order : List Taken) (on : GoesOnQuietly disk_says rows end images begins known order) where
    -- tables and a journal that have run the beginning have run the order
    pub run_on : (tables : Tables) (journal : Journal D) → Ran known tables journal → Ran order tables journal
    run_on tables journal was = record {
      can = was.can;
      rows_are = λ table. was.rows_are table ∙ sym (ap (λ (r : AllRows). r table) on.rows_are);
      end_is = was.end_is ∙ sym on.end_is;
      ends = on.end_is ∙ (was.ends ∙ ap (λ (l : List (List ℕ)). stores_end l end) (sym on.stores));
      ran = λ since start at.
          subst (λ (l : List (List ℕ)). HasRunBeside disk_says images end l tables journal since start (map placed_of order)) (sym on.stores)
          (on.runs tables journal was.rows_are since start at (was.ran since start at));
      written = λ since past start c at begun. subst (HasFitGroups disk_says past tables journal) (sym (on.chronicle c)) (was.written since past start c at begun);
      followed = followed_on disk_says rows end images begins masters known order on tables journal was;
    }

    -- what is due after the beginning is due after the order
    pub due_on : (request : Request) (told : Told) → IsDueAfter rows end images begins known request told → IsDueAfter rows end images begins order request told
    due_on request told due = record {
      outcome = due.outcome;
      tells = due.tells;
      stands = λ since start at.
          subst (λ (n : ℕ). IsOutcomeOf (rows_after rows order) n request due.outcome) (sym on.end_is)
          (subst (λ (r : AllRows). IsOutcomeOf r (end_after end known) request due.outcome) (sym on.rows_are) (due.stands since start at));
      reply = λ since start at all from d stand is kept.
          due.reply since start at all from d stand is (subst (λ (l : List (List ℕ)). KeepContents (HasStored images end l) (stores_end l end) all d) on.stores kept);
    }

  abbrev Keeps : List Taken → Tables → Type 0
  Keeps order tables = KeepsOrder disk_says rows end images begins masters order tables

  module _ (order : List Taken) (tables : Tables) (was : Keeps order tables) (entry : Taken) where
    -- one more place at which nothing is written
    pub keeps_quiet : has_lane entry.lanes journal_lane ≡ false → IsQuiet begins (rows_after rows order) (end_after end order) entry → Keeps (order ++ entry ∷ []) tables
    keeps_quiet silent is =
        let all : AreQuiet begins rows end (order ++ entry ∷ []) = quiet_more begins rows end order entry was.quiet (λ same. is) in
        let on : GoesOnQuietly disk_says rows end images begins order (order ++ entry ∷ []) =
        goes_on_quietly disk_says rows end images begins order (order ++ entry ∷ []) all (record { behind = entry ∷ []; parts = refl; untouched = (silent, tt) }) in
        record {
          shown = λ table. was.shown table ∙ sym (ap (λ (r : AllRows). r table) on.rows_are);
          quiet = all;
          run = (was.run.0, (was.run.1.0, run_on order (order ++ entry ∷ []) on was.run.0 was.run.1.0 was.run.1.1));
        }

    -- one more at which something was to be written
    pub keeps_written : {known : List Taken} {held : Bool} → IsWrittenAt disk_says rows end images begins known order held entry → (tables' : Tables) → (entry.fault ≡ true → tables' ≡ tables)
        → (entry.fault ≡ true → entry.changes ≡ []) → (entry.fault ≡ false → (table : TableId) → rows_of tables' table ≡ changed_by (rows_after rows known) entry.changes table)
        → WasRun disk_says rows end images begins masters (order ++ entry ∷ []) → Keeps (order ++ entry ∷ []) tables'
    keeps_written at tables' same none shown run = record {
      shown = λ table. go entry.fault refl table ∙ sym (at.entered.rows_are table);
      quiet = quiet_more begins rows end order entry was.quiet (λ silent. absurd (true≢false (sym at.entered.writes ∙ silent)));
      run = run;
    }
      where
        go : (fault : Bool) → entry.fault ≡ fault → (table : TableId) → rows_of tables' table ≡ changed_by (rows_after rows order) entry.changes table
        go false fine table = shown fine table ∙ ap (λ (r : AllRows). changed_by r entry.changes table) (sym at.on.rows_are)
        go true failed table =
            ap (λ (t : Tables). rows_of t table) (same failed)
            ∙ (was.shown table
            ∙ sym (ap (λ (l : List Change). changed_by (rows_after rows order) l table) (none failed)))

  -- the reply is that of the depot that has run the order
  pub reply_after : (order : List Taken) (tables : Tables) (journal : Journal D) → Ran order tables journal → (request : Request) (told : Told) → IsDueAfter rows end images begins order request told
      → (since : ℕ) (start : List Deed) → begins since start → IsReplyOf (taken step start (map placed_of order)) request told
  reply_after order tables journal was request told due since start at =
      reply_here rows end images begins order order refl request told due since start at (taken step start (map placed_of order)) (rows_of tables)
      (all_rows disk_says rows end images begins masters order tables journal was) (was.ran since start at).stand (was.ran since start at).kept

  -- a command was committed behind the order, with its contents
  module _ (order : List Taken) (tables : Tables) (journal : Journal D) (was : Ran order tables journal) (tables' : Tables) (journal' : Journal D) (can : CanCommit disk_says journal')
      (request : Request) (outcome : Outcome) (answer : Answer) (entry : Taken) (stored : List (List ℕ)) (asks : entry.request ≡ request) (fault : entry.fault ≡ answer.place.fault)
      (own : entry.changes ≡ (if entry.fault then [] else outcome.changes)) (rows_now : AreRowsAfter (rows_of tables) outcome.changes answer.place.fault (rows_of tables')) (entered : IsEntered rows end order entry tables'.archive_end)
      (ends : tables'.archive_end ≡ stores_end (stores_of order ++ stored) end) (stores_are : stores_of (order ++ entry ∷ []) ≡ stores_of order ++ stored)
      (stands : (since : ℕ) (start : List Deed) → begins since start → IsOutcomeOf (rows_of tables) tables.archive_end request outcome)
      (ran : (since : ℕ) (start : List Deed) → begins since start
      → HasRunBeside disk_says images end (stores_of order ++ stored) tables' journal' since start (with_place (map placed_of order) request answer))
      (grows : (since : ℕ) (start : List Deed) → begins since start → (c : Chronicle) → HasGroups disk_says journal c → HasGroups disk_says journal' (grown (opens_generation request) answer.place.fault outcome.changes c)) where
    pub committed : Ran (order ++ entry ∷ []) tables' journal'
    committed =
        let Beside : ℕ → List Deed → Placed → Type 0 = λ since start p.
        HasRunBeside disk_says images end (stores_of order ++ stored) tables' journal' since start (map placed_of order ++ p ∷ []) in
        run_more disk_says rows end images begins masters order tables journal was tables' journal' can entry outcome.changes stored
        (subst (λ (b : Bool). AreRowsAfter (rows_of tables) outcome.changes b (rows_of tables')) (sym fault) rows_now) own entered.rows_are entered.end_is ends stores_are
        (λ since start at. subst (λ (p : Placed). Beside since start p) (λ i. placed_by (sym asks i) (sym fault i)) (ran since start at))
        (written_more disk_says rows end images begins masters order tables journal was tables' journal' request outcome answer.place.fault entry stored asks fault own rows_now stores_are stands ran grows)
        (followed_more disk_says rows end images begins masters order tables journal was tables' journal' request outcome answer.place.fault entry stored asks fault own rows_now stores_are stands ran grows)

-- ---- what the place of a command leaves at which something was to be written

module _ {D : Type 0} {disk_says : DiskSays D} {rows : AllRows} {end : ℕ} {images : Files → Type 0} {begins : ℕ → List Deed → Type 0} {masters : Masters} {order : List Taken} {tables : Tables}
    (was : KeepsOrder disk_says rows end images begins masters order tables) {after : List Taken} {old new : PartyKnown} {entry : Taken} (placed : TakesPlace order after old new entry)
    {run : Run} {held : Bool} {party : ℕ} {lanes : List ℕ} (touches : TouchesLanes run entry held true party lanes) {known : List Taken} (behind : GoesOnWithout journal_lane known order) where
  pub written_at : ((table : TableId) → rows_after rows after table ≡ changed_by (rows_after rows order) entry.changes table) → end_after end after ≡ (if held then entry.end else end_after end order)
      → IsWrittenAt disk_says rows end images begins known order held entry
  written_at rows_are end_is = record {
    on = goes_on_quietly disk_says rows end images begins known order was.quiet behind;
    touches = of_archive touches;
    entered = record {
      writes = of_journal touches;
      rows_are = λ table. ap (λ (l : List Taken). rows_after rows l table) (sym placed.last) ∙ rows_are table;
      end_is = ap (end_after end) (sym placed.last) ∙ end_is;
    };
  }

-- an entry is that of a request that landed, behind which so much of the archive is used
pub record IsOfLanded (request : Request) (landed : Landed) (used : ℕ) (entry : Taken) : Type 0 where
  pub asks : entry.request ≡ request
  pub fault : entry.fault ≡ landed.answer.place.fault
  pub lost : entry.lost ≡ landed.lost
  pub changes : entry.changes ≡ landed.changes
  pub stores : entry.stores ≡ landed.stored
  pub end : entry.end ≡ used

pub of_taken : {request : Request} {landed : Landed} {used end lanes : ℕ} → end ≡ used
    → IsOfLanded request landed used (record { request = request; fault = landed.answer.place.fault; lost = landed.lost; lanes = lanes; changes = landed.changes; end = end; stores = landed.stored })
of_taken said = record { asks = refl; fault = refl; lost = refl; changes = refl; stores = refl; end = said }

-- what follows a commit over tables and a journal that have run a beginning of the order
module _ {D N : Type 0} {disk_says : DiskSays D} {rows : AllRows} {end : ℕ} {images : Files → Type 0} {begins : ℕ → List Deed → Type 0} {masters : Masters} {known : List Taken} {tables : Tables} {journal : Journal D}
    (was : HasRunOrder disk_says rows end images begins masters known tables journal) {writing : Writing N} (is : IsWritingFor rows end images begins known writing)
    {order : List Taken} {held : Bool} {entry : Taken} (at : IsWrittenAt disk_says rows end images begins known order held entry) where
  abbrev now : HasRunOrder disk_says rows end images begins masters order tables journal
  now = run_on disk_says rows end images begins masters known order at.on tables journal was

  abbrev here : IsDueAfter rows end images begins order writing.request writing.told
  here = due_on disk_says rows end images begins masters known order at.on writing.request writing.told is.due

  stands : (since : ℕ) (start : List Deed) → begins since start → IsOutcomeOf (rows_of tables) tables.archive_end writing.request is.due.outcome
  unfolding due_on
  stands since start begun = outcome_here disk_says rows end images begins masters order tables journal now order refl writing.request is.due.outcome here.stands since start begun

  -- the reply is that of the depot that has run the order
  pub reply_then : (since : ℕ) (start : List Deed) → begins since start → IsReplyOf (taken step start (map placed_of order)) writing.request writing.told
  reply_then since start begun = reply_after disk_says rows end images begins masters order tables journal now writing.request writing.told here since start begun

  -- some row differs after it
  pub changes_then : (since : ℕ) (start : List Deed) → begins since start → ChangesRows (taken step start (map placed_of order)) writing.request
  changes_then since start begun =
      let d = taken step start (map placed_of order) in
      let stand = (now.ran since start begun).stand in
      made_differ (rows_of tables) d writing.request is.due.outcome.changes stand (stands since start begun d stand).changes (λ none. is.some (is.due.tells.changes ∙ none))

  -- tables and a journal have run the order with its place, and the contents that it stored
  module _ {S : Type 0} {stores : List (List ℕ) → S → S → Type 0} {landed : Landed} (tables' : Tables) {store store' : S} (has : HasLanded stores writing.told landed tables.archive_end tables'.archive_end store store')
      (of : IsOfLanded writing.request landed tables'.archive_end entry) (proper : (since : ℕ) (start : List Deed) → begins since start → IsProper writing.request) (none : held ≡ false → writing.told.stores ≡ [])
      {journal' : Journal D} (can : CanCommit disk_says journal') where
    given : rows_of writing.after ≡ changed_by (rows_of tables) is.due.outcome.changes
    given = changed_here disk_says rows end images begins masters known tables journal was known refl (rows_of writing.after) writing.told.changes is.after ∙ ap (changed_by (rows_of tables)) is.due.tells.changes

    own : entry.changes ≡ (if entry.fault then [] else is.due.outcome.changes)
    own =
        of.changes
        ∙ (has.changes
        ∙ (ap (λ (l : List Change). if landed.answer.place.fault then [] else l) is.due.tells.changes
        ∙ ap (λ (b : Bool). if b then [] else is.due.outcome.changes) (sym of.fault)))

    at_end : tables.archive_end ≡ stores_end (stores_of order) end
    at_end = stored_there disk_says rows end images begins masters order tables journal now

    used_is : (b : Bool) → held ≡ b → (if held then entry.end else end_after end order) ≡ tables'.archive_end
    used_is true so = ap (λ (b : Bool). if b then entry.end else end_after end order) so ∙ of.end
    used_is false so =
        ap (λ (b : Bool). if b then entry.end else end_after end order) so
        ∙ (sym now.end_is
        ∙ sym (has.end ∙ ap (λ (l : List (List ℕ)). stores_end l tables.archive_end) (has.none (none so))))

    stores_are : (b : Bool) → held ≡ b → stores_of (order ++ entry ∷ []) ≡ stores_of order ++ landed.stored
    stores_are true so = stores_touched order entry (at.touches ∙ so) ∙ ap (λ (l : List (List ℕ)). stores_of order ++ l) of.stores
    stores_are false so = stores_spared order entry (at.touches ∙ so) ∙ sym (ap (λ (l : List (List ℕ)). stores_of order ++ l) (has.none (none so)) ∙ append-nil (stores_of order))

    pub committed_then : ((outcome : Outcome) → IsTold outcome writing.request.number writing.told → rows_of writing.after ≡ changed_by (rows_of tables) outcome.changes
        → AreRowsAfter (rows_of tables) outcome.changes landed.answer.place.fault (rows_of tables'))
        → ((from : ℕ) (before : List (List ℕ)) (since : ℕ) (start : List Deed) (places : List Placed) (outcome : Outcome) → HasRunBeside disk_says images from before tables journal since start places
        → tables.archive_end ≡ stores_end before from → IsProper writing.request → IsOutcomeOf (rows_of tables) tables.archive_end writing.request outcome → IsTold outcome writing.request.number writing.told
        → rows_of writing.after ≡ changed_by (rows_of tables) outcome.changes → HasRunBeside disk_says images from (before ++ landed.stored) tables' journal' since start (with_place places writing.request landed.answer))
        → ((d : List Deed) (c : Chronicle) (outcome : Outcome) → Stand (rows_of tables) d → IsProper writing.request → IsOutcomeOf (rows_of tables) tables.archive_end writing.request outcome → IsTold outcome writing.request.number writing.told
        → HasGroups disk_says journal c → HasGroups disk_says journal' (grown (opens_generation writing.request) landed.answer.place.fault outcome.changes c))
        → HasRunOrder disk_says rows end images begins masters (order ++ entry ∷ []) tables' journal'
    committed_then rows_now ran grows =
        let outcome = is.due.outcome in
        let tells = is.due.tells in
        committed disk_says rows end images begins masters order tables journal now tables' journal' can writing.request outcome landed.answer entry landed.stored of.asks of.fault own (rows_now outcome tells given)
        (record { writes = at.entered.writes; rows_are = at.entered.rows_are; end_is = at.entered.end_is ∙ used_is held refl })
        (has.end ∙ (ap (stores_end landed.stored) at_end ∙ sym (ends_twice images end (stores_of order) landed.stored)))
        (stores_are held refl) stands
        (λ since start begun. ran end (stores_of order) since start (map placed_of order) outcome (now.ran since start begun) at_end (proper since start begun) (stands since start begun) tells given)
        (λ since start begun c groups. grows (taken step start (map placed_of order)) c outcome (now.ran since start begun).stand (proper since start begun) (stands since start begun) tells groups)

-- the count of the journal's disk has risen where it failed; without the archive's lane its disk isn't asked
module _ {D : Type 0} {disk_says : DiskSays D} {rows : AllRows} {end : ℕ} {images : Files → Type 0} {begins : ℕ → List Deed → Type 0} {known order : List Taken} {held : Bool} {entry : Taken}
    (at : IsWrittenAt disk_says rows end images begins known order held entry) {request : Request} {landed : Landed} {used : ℕ} (of : IsOfLanded request landed used entry)
    {told : Told} {before now contents contents' : ℕ} (counted : AreCounted told landed before now contents contents') where
  pub counted_then : told.unread ≡ false → before ≤ now → (held ≡ false → (contents ≡ 0) × (contents' ≡ 0)) → (first : ℕ) (marks : List Mark) → IsCountAfter is_unwritten first before known marks
      → IsCountAfter is_unwritten first now (order ++ entry ∷ []) marks
  counted_then read le still first marks was =
      let unlost : held ≡ false → entry.lost ≡ false = λ none. of.lost ∙ never_fails contents contents' landed.lost (still none).0 (still none).1 (λ lost. counted.cause_contents lost read) in
      count_placed is_unwritten first before now order entry marks le
      (λ failed. let only = unwritten_only held entry at.touches unlost failed in counted.cause (sym of.fault ∙ only.0) (sym of.lost ∙ only.1)) (λ fine. counted.only (sym of.fault ∙ fine))
      (count_quietly first before known order marks at.on was)

-- the archive after a commit, whichever way that ended, and the count of its disk
pub archive_committed : {D : Type 0} {disk_says : DiskSays D} {end : ℕ} {images : Files → Type 0} {begins : ℕ → List Deed → Type 0} {first : ℕ} {known known' : List Taken} {archive archive' : Archive D} {marks : List Mark}
    → IsArchiveAfter disk_says end images begins known archive × IsCountAfter is_lost first (disk_says.faults (archive_disk_of archive)) known marks
    → disk_says.faults (archive_disk_of archive) ≤ disk_says.faults (archive_disk_of archive') → {T E Same : Type 0} (result : Result T E) → (Same → (archive' ≡ archive) × (known' ≡ known)) → OnErr result Same
    → IfOk result (λ answer. IsStoredBehind (LearnsPlace archive_lane) true (λ stored old new. StoresBehind disk_says stored old new) (λ (a : Archive D). disk_says.faults (archive_disk_of a)) known known' archive archive')
    → IsArchiveAfter disk_says end images begins known' archive' × IsCountAfter is_lost first (disk_says.faults (archive_disk_of archive')) known' marks
archive_committed {D} {disk_says} {end} {images} {begins} {first} {known} {known'} {archive} {archive'} {marks} was le (Ok answer) same nothing stored =
    let before = disk_says.faults (archive_disk_of archive) in
    let now = disk_says.faults (archive_disk_of archive') in
    let on = stored.learnt.behind in
    subst (λ (l : List Taken). IsArchiveAfter disk_says end images begins l archive' × IsCountAfter is_lost first now l marks) (sym stored.learnt.learnt) (
      archive_then disk_says end images begins known stored.order archive archive' was.0 on stored.entry stored.touches stored.stored,
      count_placed is_lost first before now stored.order stored.entry marks le (λ lost. stored.caused (lost_of stored.entry lost)) stored.stand (count_learnt first before known stored.order marks on was.1),
    )
archive_committed was le (Err error) same nothing stored = rw ((same nothing).1, (same nothing).0) was
