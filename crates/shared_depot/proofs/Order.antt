-- Tables and a journal that have run an order, and an archive in which its contents were stored, before and after one more command.
use Rattle.std.proofs.Common.{◌≡◌, ℕ, Bool, true, false, List, [], ◌∷◌, ◌++◌, map, refl, sym, ap, subst, ◌∙◌, append-nil, arith}
use Rattle.std.specs.Prelude.{if◌then◌else◌}
use mathlib.Core.List.{map-append}
use Rattle.archive_file.specs.Archive.{disk_of as archive_disk_of, used_of}
use Rattle.archive_file.specs.declared.archive.Archive.{Archive}
use Rattle.depot_rows.specs.db_records.declared.change.Change.{Change}
use Rattle.depot_rows.specs.db_records.declared.table.TableId.{TableId}
use Rattle.depot_rows.specs.depot_model.Deeds.{Deed}
use Rattle.depot_rows.specs.depot_model.Places.{Placed, taken, told_at}
use Rattle.depot_rows.specs.depot_model.Printed.{printed}
use Rattle.depot_rows.specs.depot_model.declared.order.Answer.{Answer}
use Rattle.depot_rows.specs.depot_model.declared.request.Request.{Request}
use Rattle.depot_rows.specs.depot_model.Commands.{step}
use Rattle.disk_journal.specs.declared.journal.Journal.{Journal}
use Rattle.locked_tables.specs.Known.{GoesOnWithout, PartyKnown}
use Rattle.locked_tables.specs.Taken.{IsOwn, archive_lane, end_after, journal_lane, place_of, placed_of, rows_after}
use Rattle.locked_tables.specs.declared.taken.Taken.{Taken}
use Rattle.order_words.specs.Lanes.{has_lane}
use Rattle.outside_api.specs.Disk.{Files, NoMore}
use Rattle.outside_api.specs.Says.{DiskSays}
use Rattle.depot_commit.specs.Committing.{AreRowsAfter, IsOutcomeOf}
use Rattle.depot_commit.specs.Fetching.{IsRead}
use Rattle.depot_commit.specs.Growing.{Chronicle, HasGroups}
use Rattle.depot_commit.specs.Placing.{EndsAt, HasRunBeside, StoresBehind}
use Rattle.serial_depot.specs.Running.{CanTake, HasRun}
use Rattle.depot_commit.specs.Running.{CanCommit}
use Rattle.depot_commit.specs.Storing.{AllReach, HasStored, stores_end}
use Rattle.depot_commit.specs.command_core.declared.outcome.Outcome.{Outcome}
use Rattle.serial_depot.specs.declared.depot.SerialDepot.{SerialDepot}
use Rattle.depot_commit.proofs.Moved.{over_moved}
use Rattle.depot_commit.proofs.Beside.{among_on, used_on}
use Rattle.depot_commit.proofs.Stored.{keeps_more}
use Rattle.replica_turns.proofs.Masters.{unmoved_master}
use Rattle.replica_turns.specs.Master.{IsMaster, Past}
use Rattle.session_loop.specs.Taking.{Answers, place_by, placed_by}
use Rattle.depot_rows.specs.table_changes.Changed.{AllRows, changed_by, rows_of}
use Rattle.depot_rows.specs.table_store.declared.tables.Tables.{Tables}
use Rattle.shared_depot.specs.Common.{HasAllStored, HasRunOrder, IsArchiveAfter, IsFollowed, IsLostPlace, HasFitGroups, Masters, chronicle_after}
use Rattle.shared_depot.specs.Room.{StandsAfter}
use Rattle.shared_depot.specs.Sharing.{ChangesRows, IsTakenAt}
use Rattle.shared_depot.specs.Stored.{images_after, stored_end, stores_of}
use Rattle.shared_depot.proofs.Stored.{stores_kept, stores_touched}

-- beside an archive in which the contents of an order were stored tables and a journal are a depot that has run what they have run
pub beside_ran : {D : Type 0} (disk_says : DiskSays D) (end : ℕ) (images : Files → Type 0) (begins : ℕ → List Deed → Type 0) (order : List Taken) (tables : Tables) (journal : Journal D) (archive : Archive D)
    → HasAllStored disk_says end images begins order archive → (since : ℕ) (start : List Deed) → begins since start → (places : List Placed)
    → HasRunBeside disk_says images end (stores_of order) tables journal since start places → HasRun disk_says (record { tables = tables; journal = journal; archive = archive }) since start places
beside_ran disk_says end images begins order tables journal archive all since start at places ran = record {
  tells = all.tells since start at;
  over = over_moved disk_says (images_after images end order) (stored_end end order) tables journal since start places ran
      (disk_says.may_leave (archive_disk_of archive)) (used_of archive) all.used (keeps_more (images_after images end order) (disk_says.may_leave (archive_disk_of archive)) (stored_end end order) all.among);
}

module _ {D : Type 0} (disk_says : DiskSays D)
    (rows : AllRows) (end : ℕ) (images : Files → Type 0) (begins : ℕ → List Deed → Type 0) (masters : Masters) where
  abbrev Ran : List Taken → Tables → Journal D → Type 0
  Ran order tables journal = HasRunOrder disk_says rows end images begins masters order tables journal

  module _ (order : List Taken) (tables : Tables) (journal : Journal D) (was : Ran order tables journal) where
    -- the rows are those after the order
    pub all_rows : rows_of tables ≡ rows_after rows order
    all_rows = λ k table. was.rows_are table k

    -- and the end of the archive is where the contents end
    pub stored_there : tables.archive_end ≡ stored_end end order
    stored_there = was.end_is ∙ was.ends

    -- an outcome after the order is one over the rows
    pub outcome_here : (now : List Taken) → order ≡ now → (request : Request) (outcome : Outcome) → StandsAfter rows end begins now request outcome
        → (since : ℕ) (start : List Deed) → begins since start → IsOutcomeOf (rows_of tables) tables.archive_end request outcome
    outcome_here now here request outcome stands since start at =
        let P : AllRows → ℕ → Type 0 = λ all from. IsOutcomeOf all from request outcome in
        let after : P (rows_after rows order) (end_after end order) = subst (λ (l : List Taken). P (rows_after rows l) (end_after end l)) (sym here) (stands since start at) in
        subst (P (rows_of tables)) (sym was.end_is) (subst (λ (all : AllRows). P all (end_after end order)) (sym all_rows) after)

    -- tables after the order and then changes are these after the changes
    pub changed_here : (now : List Taken) → order ≡ now → (after : AllRows) (changes : List Change)
        → ((table : TableId) → after table ≡ changed_by (rows_after rows now) changes table) → after ≡ changed_by (rows_of tables) changes
    changed_here now here after changes made =
        (λ k table. made table k)
        ∙ (ap (λ (l : List Taken). changed_by (rows_after rows l) changes) (sym here)
        ∙ ap (λ (all : AllRows). changed_by all changes) (sym all_rows))

    -- a command has the place of an entry behind them, and these contents were stored
    pub run_more : (tables' : Tables) (journal' : Journal D) → CanCommit disk_says journal'
        → (entry : Taken) (changes : List Change) (stored : List (List ℕ)) → AreRowsAfter (rows_of tables) changes entry.fault (rows_of tables')
        → entry.changes ≡ (if entry.fault then [] else changes)
        → ((table : TableId) → rows_after rows (order ++ entry ∷ []) table ≡ changed_by (rows_after rows order) entry.changes table)
        → end_after end (order ++ entry ∷ []) ≡ tables'.archive_end → tables'.archive_end ≡ stores_end (stores_of order ++ stored) end
        → stores_of (order ++ entry ∷ []) ≡ stores_of order ++ stored
        → ((since : ℕ) (start : List Deed) → begins since start → HasRunBeside disk_says images end (stores_of order ++ stored) tables' journal' since start (map placed_of order ++ placed_of entry ∷ []))
        → ((since : ℕ) (past : Past) (start : List Deed) (c : Chronicle) → begins since start → masters past start c → HasFitGroups disk_says past tables' journal' (chronicle_after c (order ++ entry ∷ [])))
        → ((archive : Archive D) → HasAllStored disk_says end images begins (order ++ entry ∷ []) archive
        → IsFollowed disk_says begins masters (order ++ entry ∷ []) (record { tables = tables'; journal = journal'; archive = archive }))
        → Ran (order ++ entry ∷ []) tables' journal'
    run_more tables' journal' can entry changes stored rows_now own rows_placed end_placed ends stores_are ran written followed = record {
      can = can;
      rows_are = λ table. left table entry.fault entry.changes own rows_now ∙ sym (rows_placed table);
      end_is = sym end_placed;
      ends = end_placed ∙ (ends ∙ sym (ap (λ (l : List (List ℕ)). stores_end l end) stores_are));
      ran = λ since start at.
          subst (HasRunBeside disk_says images end (stores_of (order ++ entry ∷ [])) tables' journal' since start) (sym (map-append placed_of order (entry ∷ [])))
          (subst (λ (l : List (List ℕ)). HasRunBeside disk_says images end l tables' journal' since start (map placed_of order ++ placed_of entry ∷ [])) (sym stores_are) (ran since start at));
      written = written;
      followed = followed;
    }
      where
        left : (table : TableId) (fault : Bool) (made : List Change) → made ≡ (if fault then [] else changes) → AreRowsAfter (rows_of tables) changes fault (rows_of tables')
            → rows_of tables' table ≡ changed_by (rows_after rows order) made table
        left table true made none same = ap (λ (all : AllRows). all table) same ∙ (was.rows_are table ∙ sym (ap (λ (l : List Change). changed_by (rows_after rows order) l table) none))
        left table false made all same =
            ap (λ (now : AllRows). now table) same
            ∙ (ap (λ (before : AllRows). changed_by before changes table) all_rows
            ∙ sym (ap (λ (l : List Change). changed_by (rows_after rows order) l table) all))

    -- beside an archive in which the contents of the order were stored they are a depot that has run it
    pub depot_ran : (archive : Archive D) → HasAllStored disk_says end images begins order archive → (since : ℕ) (start : List Deed) → begins since start
        → HasRun disk_says (record { tables = tables; journal = journal; archive = archive }) since start (map placed_of order)
    depot_ran archive all since start at = beside_ran disk_says end images begins order tables journal archive all since start at (map placed_of order) (was.ran since start at)

  -- a journal of which bytes were read, or none, is as good
  pub run_fetched : (order : List Taken) (tables : Tables) (journal journal' : Journal D) → Ran order tables journal → CanCommit disk_says journal'
      → ((since : ℕ) (start : List Deed) (places : List Placed) → HasRunBeside disk_says images end (stores_of order) tables journal since start places
      → HasRunBeside disk_says images end (stores_of order) tables journal' since start places)
      → ((c : Chronicle) → HasGroups disk_says journal c → HasGroups disk_says journal' c) → Ran order tables journal'
  run_fetched order tables journal journal' was can same groups = record {
    can = can;
    rows_are = was.rows_are;
    end_is = was.end_is;
    ends = was.ends;
    ran = λ since start at. same since start (map placed_of order) (was.ran since start at);
    written = λ since past start c at begun.
        let before = was.written since past start c at begun in
        record { groups = groups (chronicle_after c order) before.groups; rows = before.rows; fit = before.fit };
    followed = λ archive all since past start c at begun.
        let master = was.followed archive all since past start c at begun in
        unmoved_master disk_says past start (map placed_of order) (record { tables = tables; journal = journal; archive = archive }) (record { tables = tables; journal = journal'; archive = archive })
        (chronicle_after c order) master (record { below = λ spot bytes le has. has; more = omega arith }) refl (groups (chronicle_after c order) master.groups);
  }

-- ---- an archive

module _ {D : Type 0} (disk_says : DiskSays D)
    (end : ℕ) (images : Files → Type 0) (begins : ℕ → List Deed → Type 0) where
  abbrev Kept : List Taken → Archive D → Type 0
  Kept order archive = IsArchiveAfter disk_says end images begins order archive

  -- more places are known, none of which touched its lane
  pub archive_learnt : (known order : List Taken) (archive : Archive D) → Kept known archive → GoesOnWithout archive_lane known order → Kept order archive
  archive_learnt known order archive was on =
      let stores = stores_kept known order on in
      record {
        used = was.used ∙ ap (λ (l : List (List ℕ)). stores_end l end) (sym stores);
        among = subst (λ (l : List (List ℕ)). NoMore (HasStored images end l) (disk_says.may_leave (archive_disk_of archive))) (sym stores) was.among;
        room = was.room;
        tells = was.tells;
      }

  -- it has the contents of the places that are known
  pub has_all : (known : List Taken) (archive : Archive D) → Kept known archive → HasAllStored disk_says end images begins known archive
  has_all known archive was = record { used = let used = was.used in omega (arith, used); among = was.among; room = was.room; tells = was.tells }

  -- contents were read of it, or none
  pub archive_read : (known : List Taken) (archive archive' : Archive D) → Kept known archive → IsRead disk_says archive archive' → Kept known archive'
  archive_read known archive archive' was read = record {
    used = read.used ∙ was.used;
    among = λ image left. was.among image (read.crash image left);
    room = λ image left. let far = was.room image (read.crash image left) in let same = read.used in omega (arith, far, same);
    tells = λ since start at. let told = was.tells since start at in (told.0, read.same.kept told.0 told.1);
  }

  -- A content couldn't be read, and the command has its place, at which nothing was stored.
  pub archive_placed : (order after : List Taken) (archive archive' : Archive D) → Kept order archive → IsRead disk_says archive archive' → IsLostPlace order after → Kept after archive'
  archive_placed order after archive archive' was read place =
      let now = archive_read order archive archive' was read in
      let stores : stores_of after ≡ stores_of order =
      ap stores_of place.placed ∙ (stores_touched order place.entry place.touches ∙ (ap (λ (l : List (List ℕ)). stores_of order ++ l) place.unstored ∙ append-nil (stores_of order))) in
      record {
        used = now.used ∙ ap (λ (l : List (List ℕ)). stores_end l end) (sym stores);
        among = subst (λ (l : List (List ℕ)). NoMore (HasStored images end l) (disk_says.may_leave (archive_disk_of archive'))) (sym stores) now.among;
        room = now.room;
        tells = now.tells;
      }

  -- A place more behind an order that goes on without touching its lane, whose contents were stored.
  pub archive_then : (known order : List Taken) (archive archive' : Archive D) → Kept known archive → GoesOnWithout archive_lane known order → (entry : Taken)
      → has_lane entry.lanes archive_lane ≡ true → StoresBehind disk_says entry.stores archive archive' → Kept (order ++ entry ∷ []) archive'
  archive_then known order archive archive' before on entry touches behind =
      let was = archive_learnt known order archive before on in
      let stores = stores_touched order entry touches in
      record {
        used = used_on disk_says images end (stores_of order) entry.stores archive archive' was.used behind ∙ ap (λ (l : List (List ℕ)). stores_end l end) (sym stores);
        among = subst (λ (l : List (List ℕ)). NoMore (HasStored images end l) (disk_says.may_leave (archive_disk_of archive'))) (sym stores)
            (among_on disk_says images end (stores_of order) entry.stores archive archive' was.used was.among behind);
        room = behind.room;
        tells = λ since start at. let told = was.tells since start at in behind.tells told.0 told.1;
      }

-- contents are stored in it behind those of the places that are known
pub ends_at : {D : Type 0} {disk_says : DiskSays D} {end : ℕ} {images : Files → Type 0} {begins : ℕ → List Deed → Type 0} {known order : List Taken} {archive : Archive D}
    → IsArchiveAfter disk_says end images begins known archive → known ≡ order → EndsAt disk_says archive (stored_end end order)
ends_at {D} {disk_says} {end} {images} {begins} {known} {order} {archive} was here =
    subst (EndsAt disk_says archive) (ap (stored_end end) here) (was.used, subst (AllReach (disk_says.may_leave (archive_disk_of archive))) was.used was.room)

-- the rows are those after the places that are known
pub rows_known : {D : Type 0} {disk_says : DiskSays D} {rows : AllRows} {end : ℕ} {images : Files → Type 0} {begins : ℕ → List Deed → Type 0} {masters : Masters} {known order : List Taken} {tables : Tables} {journal : Journal D}
    → HasRunOrder disk_says rows end images begins masters known tables journal → known ≡ order → rows_of tables ≡ rows_after rows order
rows_known {D} {disk_says} {rows} was here = (λ k table. was.rows_are table k) ∙ ap (rows_after rows) here

-- ---- what the party is promised

module _ (begins : ℕ → List Deed → Type 0) (order after : List Taken) (old new : PartyKnown) (entry : Taken) (request : Request) (told answer : Answer)
    (more : after ≡ order ++ entry ∷ []) (knows : new ≡ record old { list = after }) (own : IsOwn old.party old.list order after)
    (asks : entry.request ≡ request) (fault : entry.fault ≡ told.place.fault) (is : answer ≡ record { place = place_of entry; reply = told.reply }) where
  same_fault : told.place.fault ≡ answer.place.fault
  same_fault = sym fault ∙ sym (ap (λ (a : Answer). a.place.fault) is)

  answers_so : (start : List Deed) (places : List Placed) → Answers start places request told → Answers start places request answer
  answers_so start places promised = record {
    place =
        ap (λ (a : Answer). a.place) is
        ∙ (ap (λ (r : Request). place_by r entry.fault) asks
        ∙ sym (ap (λ (a : Answer). place_by request a.place.fault) is));
    reply =
        ap (λ (a : Answer). a.reply) is
        ∙ (promised.reply
        ∙ ap (λ (b : Bool). printed (told_at step (taken step start places) (placed_by request b)) request.number) same_fault);
  }

  pub taken_so : ((since : ℕ) (start : List Deed) → begins since start → Answers start (map placed_of order) request told)
      → (has_lane entry.lanes journal_lane ≡ true → (since : ℕ) (start : List Deed) → begins since start → ChangesRows (taken step start (map placed_of order)) request) → IsTakenAt begins old new request answer
  taken_so promised writes = record {
    before = order;
    entry = entry;
    known = knows ∙ ap (λ (l : List Taken). record old { list = l }) more;
    later = own.begins;
    own = own.earlier;
    asks = asks;
    place = ap (λ (a : Answer). a.place) is;
    answers = λ since start at. answers_so start (map placed_of order) (promised since start at);
    writes = writes;
  }

-- ---- parts that have run no place

module _ {D : Type 0} (disk_says : DiskSays D) (rows : AllRows) (end : ℕ) (images : Files → Type 0) (begins : ℕ → List Deed → Type 0) (depot : SerialDepot D)
    (can : CanTake disk_says depot) (rows_are : (table : TableId) → rows_of depot.tables table ≡ rows table) (end_is : depot.tables.archive_end ≡ end)
    (fewer : NoMore (disk_says.may_leave (archive_disk_of depot.archive)) images) (among : NoMore images (disk_says.may_leave (archive_disk_of depot.archive)))
    (ran : (since : ℕ) (start : List Deed) → begins since start → HasRun disk_says depot since start []) where
  there : used_of depot.archive ≡ end
  there = sym can.end ∙ end_is

  pub fresh_run : (masters : Masters) → ((past : Past) (start : List Deed) (c : Chronicle) → masters past start c → IsMaster disk_says past start [] depot c)
      → HasRunOrder disk_says rows end images begins masters [] depot.tables depot.journal
  fresh_run masters first = record {
    can = (can.was, (can.doubt, can.stands));
    rows_are = rows_are;
    end_is = end_is;
    ends = refl;
    ran = λ since start at.
        let used = used_of depot.archive in
        over_moved disk_says (disk_says.may_leave (archive_disk_of depot.archive)) used depot.tables depot.journal since start [] (ran since start at).over (HasStored images end []) end (omega (arith, there))
        (λ spot bytes le all image has. has.below spot bytes (omega (arith, le, there)) (λ c left. all c (fewer c left)));
    written = λ since past start c at begun. let master = first past start c begun in record { groups = master.groups; rows = master.rows; fit = master.fit };
    followed = λ archive all since past start c at begun.
        let master = first past start c begun in
        let used = all.used in
        unmoved_master disk_says past start [] depot (record { tables = depot.tables; journal = depot.journal; archive = archive }) c master
        (record { below = λ spot bytes le has image left. (all.among image left).below spot bytes (omega (arith, le, there)) (λ other may. has other (fewer other may)); more = omega (arith, used, there) })
        refl master.groups;
  }

  pub fresh_archive : IsArchiveAfter disk_says end images begins [] depot.archive
  fresh_archive = record {
    used = there;
    among = λ image left. record { below = λ spot bytes le all. all image (among image left); stored = tt; reach = let far = can.room image left in omega (arith, far, there) };
    room = can.room;
    tells = λ since start at. (ran since start at).tells;
  }

-- ---- the parts put together

module _ {D : Type 0} (disk_says : DiskSays D) (rows : AllRows) (end : ℕ) (images : Files → Type 0) (begins : ℕ → List Deed → Type 0) (masters : Masters)
    (order : List Taken) (tables : Tables) (journal : Journal D) (archive : Archive D) (was : HasRunOrder disk_says rows end images begins masters order tables journal)
    (kept : IsArchiveAfter disk_says end images begins order archive) where
  pub closed_can : CanTake disk_says (record { tables = tables; journal = journal; archive = archive })
  closed_can = record {
    was = was.can.0;
    doubt = was.can.1.0;
    stands = was.can.1.1;
    end = stored_there disk_says rows end images begins masters order tables journal was ∙ sym kept.used;
    room = kept.room;
  }

  pub closed_stored : HasAllStored disk_says end images begins order archive
  closed_stored = has_all disk_says end images begins order archive kept

  pub closed_followed : IsFollowed disk_says begins masters order (record { tables = tables; journal = journal; archive = archive })
  closed_followed = was.followed archive closed_stored

  pub closed_run : (since : ℕ) (start : List Deed) → begins since start → HasRun disk_says (record { tables = tables; journal = journal; archive = archive }) since start (map placed_of order)
  closed_run = depot_ran disk_says rows end images begins masters order tables journal was archive closed_stored
