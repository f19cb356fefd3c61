-- A depot whose archive was read or stored in, and its run as one beside its archive.
use Rattle.std.proofs.Common.{◌≡◌, ◌⊎◌, ℕ, ◌≤◌, Bool, true, false, List, [], inl, inr, refl, sym, ap, subst, ◌∙◌, arith}
use Rattle.outside_api.specs.Count.{HasRisen}
use Rattle.outside_api.specs.Disk.{Files, NoMore, Same}
use Rattle.outside_api.specs.Says.{DiskSays}
use Rattle.archive_file.specs.Archive.{disk_of, used_of}
use Rattle.archive_file.specs.declared.archive.Archive.{Archive}
use Rattle.depot_rows.specs.depot_model.Deeds.{Deed}
use Rattle.depot_rows.specs.depot_model.Places.{Placed}
use Rattle.depot_rows.specs.table_store.declared.tables.Tables.{Tables}
use Rattle.disk_journal.specs.Stands.{disk_of as journal_disk_of}
use Rattle.disk_journal.specs.declared.journal.Journal.{Journal}
use Rattle.depot_commit.specs.Placing.{EndsAt, HasRunBeside, StoresBehind}
use Rattle.depot_commit.specs.Running.{CanCommit, HasRunOver}
use Rattle.depot_commit.specs.Storing.{AllReach, HasStored, KeepsBelow, stores_end}
use Rattle.depot_commit.proofs.Beside.{among_now, among_on}
use Rattle.depot_commit.proofs.Moved.{over_fewer, over_moved}
use Rattle.depot_commit.proofs.Stored.{keeps_more, stored_keeps}
use Rattle.serial_depot.specs.Running.{CanTake, HasRun, HasStayed}
use Rattle.serial_depot.specs.declared.depot.SerialDepot.{SerialDepot}

-- ---- its archive

-- it was read or stored in
pub has_run_moved : {D : Type 0} (disk_says : DiskSays D) (depot : SerialDepot D) (since : ℕ) (start : List Deed) (places : List Placed)
    → HasRun disk_says depot since start places → (archive : Archive D) → used_of depot.archive ≤ used_of archive → ((files : Files) × disk_says.seen (disk_of archive) files)
    → KeepsBelow (disk_says.may_leave (disk_of depot.archive)) (disk_says.may_leave (disk_of archive)) (used_of depot.archive)
    → HasRun disk_says (record { tables = depot.tables; journal = depot.journal; archive = archive }) since start places
has_run_moved disk_says depot since start places h archive le tells keeps = record {
  tells = tells;
  over = over_moved disk_says (disk_says.may_leave (disk_of depot.archive)) (used_of depot.archive) depot.tables depot.journal since start places h.over
      (disk_says.may_leave (disk_of archive)) (used_of archive) le keeps;
}

-- it was read
module _ {D : Type 0} (disk_says : DiskSays D) (depot : SerialDepot D) (archive : Archive D) (same_used : used_of archive ≡ used_of depot.archive)
    (same : Same (disk_says.seen (disk_of depot.archive)) (disk_says.seen (disk_of archive))) (more : NoMore (disk_says.may_leave (disk_of depot.archive)) (disk_says.may_leave (disk_of archive))) where
  abbrev pub read : SerialDepot D
  read = record { tables = depot.tables; journal = depot.journal; archive = archive }

  pub read_can : CanTake disk_says depot → CanTake disk_says read
  read_can can = record {
    was = can.was;
    doubt = can.doubt;
    stands = can.stands;
    end = can.end ∙ sym same_used;
    room = λ image left. let le = can.room image (more image left) in omega (arith, le, same_used);
  }

  pub read_run : (since : ℕ) (start : List Deed) (places : List Placed) → HasRun disk_says depot since start places → HasRun disk_says read since start places
  read_run since start places h =
      has_run_moved disk_says depot since start places h archive (omega (arith, same_used)) (h.tells.0, same.kept h.tells.0 h.tells.1)
      (keeps_more (disk_says.may_leave (disk_of depot.archive)) (disk_says.may_leave (disk_of archive)) (used_of depot.archive) more)

  -- and a request got no place
  pub read_stayed : {tables : Tables} {journal : Journal D} {now : Archive D} → (tables ≡ depot.tables) × (journal ≡ depot.journal) × (now ≡ archive) → disk_says.faults (disk_of archive) ≡ disk_says.faults (disk_of depot.archive)
      → HasStayed disk_says depot (record { tables = tables; journal = journal; archive = now })
  read_stayed {tables} {journal} {now} kept stood =
      let all : read ≡ record { tables = tables; journal = journal; archive = now } = λ i. record { tables = sym kept.0 i; journal = sym kept.1 i; archive = sym kept.2 i } in
      record {
        tables = kept.0;
        journal = kept.1;
        ran = λ since start places h. subst (λ (now : SerialDepot D). HasRun disk_says now since start places) all (read_run since start places h);
        stood = record { journal = ap (λ (journal : Journal D). disk_says.faults (journal_disk_of journal)) kept.1; archive = ap (λ (archive : Archive D). disk_says.faults (disk_of archive)) kept.2 ∙ stood };
      }

-- ---- its parts

-- it can take commands, where its journal can commit and its archive ends where its tables say
pub can_of : {D : Type 0} (disk_says : DiskSays D) (depot : SerialDepot D) → CanCommit disk_says depot.journal
    → EndsAt disk_says depot.archive depot.tables.archive_end → CanTake disk_says depot
can_of disk_says depot can used = record {
  was = can.0;
  doubt = can.1.0;
  stands = can.1.1;
  end = sym used.0;
  room = subst (AllReach (disk_says.may_leave (disk_of depot.archive))) (sym used.0) used.1;
}

module _ {D : Type 0} (disk_says : DiskSays D) where
  -- the run of a depot is one beside its archive, in which nothing was stored since
  pub beside_now : (depot : SerialDepot D) (since : ℕ) (start : List Deed) (places : List Placed) → HasRun disk_says depot since start places
      → HasRunBeside disk_says (disk_says.may_leave (disk_of depot.archive)) (used_of depot.archive) [] depot.tables depot.journal since start places
  beside_now depot since start places h =
      let images = disk_says.may_leave (disk_of depot.archive) in
      let used = used_of depot.archive in
      over_moved disk_says images used depot.tables depot.journal since start places h.over (HasStored images used []) used (omega arith) (stored_keeps images used [])

  -- and a run beside an archive, whose disk tells what it reads, is that of a depot
  pub depot_of_parts : (images : Files → Type 0) (from : ℕ) (stores : List (List ℕ)) (depot : SerialDepot D) (since : ℕ) (start : List Deed) (places : List Placed)
      → HasRunBeside disk_says images from stores depot.tables depot.journal since start places → used_of depot.archive ≡ stores_end stores from
      → NoMore (HasStored images from stores) (disk_says.may_leave (disk_of depot.archive)) → ((files : Files) × disk_says.seen (disk_of depot.archive) files) → HasRun disk_says depot since start places
  depot_of_parts images from stores depot since start places h used among tells = record {
    tells = tells;
    over = subst (λ (n : ℕ). HasRunOver disk_says (disk_says.may_leave (disk_of depot.archive)) n depot.tables depot.journal since start places) (sym used)
        (over_fewer disk_says (HasStored images from stores) (stores_end stores from) depot.tables depot.journal since start places h (disk_says.may_leave (disk_of depot.archive)) among);
  }

-- contents were stored in an archive that was read, and a place was run beside them
pub stored_run : {D : Type 0} {disk_says : DiskSays D} {read : SerialDepot D} → CanTake disk_says read → {since : ℕ} {start : List Deed} {places : List Placed} → HasRun disk_says read since start places
    → {stored : List (List ℕ)} {now : SerialDepot D} → StoresBehind disk_says stored read.archive now.archive → {more : List Placed}
    → HasRunBeside disk_says (disk_says.may_leave (disk_of read.archive)) (used_of read.archive) stored now.tables now.journal since start more → HasRun disk_says now since start more
stored_run {D} {disk_says} {read} can {since} {start} {places} h {stored} {now} behind {more} done =
    let images = disk_says.may_leave (disk_of read.archive) in
    depot_of_parts disk_says images (used_of read.archive) stored now since start more done behind.used
    (among_on disk_says images (used_of read.archive) [] stored read.archive now.archive refl (among_now disk_says read.archive can.room) behind) (behind.tells h.tells.0 h.tells.1)

-- ---- who failed

pub cause_of : {Commits : Type 0} (before read now : ℕ) → before ≤ read → read ≤ now → (lost unread : Bool) → (lost ≡ false → Commits) → (lost ≡ true → unread ≡ false → HasRisen read now) → (unread ≡ true → HasRisen before read)
    → Commits ⊎ HasRisen before now
cause_of before read now first then false unread commits stores reads = inl (commits refl)
cause_of before read now first then true false commits stores reads = let risen = stores refl refl in inr (omega (arith, first, risen))
cause_of before read now first then true true commits stores reads = let risen = reads refl in inr (omega (arith, then, risen))
