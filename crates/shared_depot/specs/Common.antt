-- What lies behind the locks of the archive, of the journal and of the order. This project's own choice.
use Rattle.std.specs.Prelude.{◌≡◌, ◌≤◌, ◌+◌, ℕ, Bool, true, false, List, [], ◌∷◌, ◌++◌, length, map, count_by, if◌then◌else◌}
use mathlib.Core.List.{IsPrefix}
use Rattle.archive_file.specs.Archive.{disk_of as archive_disk_of, used_of}
use Rattle.archive_file.specs.declared.archive.Archive.{Archive}
use Rattle.depot_rows.specs.db_records.declared.table.TableId.{TableId}
use Rattle.depot_rows.specs.depot_model.Deeds.{Deed}
use Rattle.depot_rows.specs.table_store.declared.tables.Tables.{Tables}
use Rattle.disk_journal.specs.declared.journal.Journal.{Journal}
use Rattle.locked_tables.specs.Taken.{archive_lane, end_after, journal_lane, place_of, placed_of, rows_after, rows_behind}
use Rattle.locked_tables.specs.declared.taken.Taken.{Taken}
use Rattle.order_words.specs.Lanes.{has_lane}
use Rattle.outside_api.specs.Count.{counted}
use Rattle.outside_api.specs.Disk.{Files, NoMore}
use Rattle.outside_api.specs.Says.{DiskSays}
use Rattle.party_marks.specs.declared.mark.Mark.{Mark}
use Rattle.depot_commit.specs.Growing.{Chronicle, HasGroups, grown}
use Rattle.depot_commit.specs.Opening.{opens_generation}
use Rattle.depot_commit.specs.Placing.{HasRunBeside, LeavesRows}
use Rattle.depot_commit.specs.Running.{CanCommit}
use Rattle.depot_commit.specs.Storing.{AllReach}
use Rattle.depot_rows.specs.table_changes.Changed.{AllRows, changed_by, no_rows, rows_of}
use Rattle.depot_rows.specs.depot_model.Commands.{step}
use Rattle.depot_rows.specs.depot_model.Places.{taken}
use Rattle.depot_rows.specs.Standing.{Stand}
use Rattle.recovery.specs.Holding.{joined}
use Rattle.replica_turns.specs.Master.{AllFit, AreChanges, IsMaster, Past, all_changes}
use Rattle.serial_depot.specs.declared.depot.SerialDepot.{SerialDepot}
use Rattle.session_loop.specs.Served.{fault_count}
use Rattle.shared_depot.specs.Stored.{images_after, is_lost, is_unwritten, stored_end, stores_of}

module _ {D : Type 0} (disk_says : DiskSays D) where
  -- An archive in which the contents of an order's places were stored, and maybe others behind them; all that is used of it is there.
  pub record HasAllStored (end : ℕ) (images : Files → Type 0) (begins : ℕ → List Deed → Type 0) (order : List Taken) (archive : Archive D) : Type 0 where
    pub used : stored_end end order ≤ used_of archive
    pub among : NoMore (images_after images end order) (disk_says.may_leave (archive_disk_of archive))
    pub room : AllReach (disk_says.may_leave (archive_disk_of archive)) (used_of archive)
    pub tells : (since : ℕ) (start : List Deed) → begins since start → (files : Files) × disk_says.seen (archive_disk_of archive) files

-- ---- what was written

-- the groups of a journal after the places of an order, from those that it had before them
abbrev pub chronicle_after : Chronicle → List Taken → Chronicle
chronicle_after c [] = c
chronicle_after c (entry ∷ order) = chronicle_after (grown (opens_generation entry.request) entry.fault entry.changes c) order

-- from which depots that replicas follow a run may have begun: what was done before it, the depot, and the groups of its journal
abbrev pub Masters : Type 1
Masters = Past → List Deed → Chronicle → Type 0

module _ {D : Type 0} (disk_says : DiskSays D) where
  -- From each such depot on, replicas follow this one after the places of an order: each image of the journal's disk has the groups that were written at
  -- these places, behind those before them.
  abbrev pub IsFollowed : (ℕ → List Deed → Type 0) → Masters → List Taken → SerialDepot D → Type 0
  IsFollowed begins masters order depot =
      (since : ℕ) (past : Past) (start : List Deed) (c : Chronicle) → begins since start → masters past start c → IsMaster disk_says past start (map placed_of order) depot (chronicle_after c order)

  -- A journal has these groups. They make the rows of tables, and they fit where those before the run did.
  pub record HasFitGroups (past : Past) (tables : Tables) (journal : Journal D) (c : Chronicle) : Type 0 where
    pub groups : HasGroups disk_says journal c
    pub rows : rows_of tables ≡ changed_by no_rows (joined (all_changes c))
    pub fit : AllFit past.journal → AllFit c

  -- Tables and a journal have run the places of an order: the rows and the end of the archive are those after it, from each moment and depot from which
  -- they began it they have taken the commands of these places, beside an archive in which the contents of these places were stored, the journal has the
  -- groups that were written at them, and replicas follow them beside each such archive.
  pub record HasRunOrder (rows : AllRows) (end : ℕ) (images : Files → Type 0) (begins : ℕ → List Deed → Type 0) (masters : Masters) (order : List Taken) (tables : Tables) (journal : Journal D) : Type 0 where
    pub can : CanCommit disk_says journal
    pub rows_are : (table : TableId) → rows_of tables table ≡ rows_after rows order table
    pub end_is : tables.archive_end ≡ end_after end order
    pub ends : end_after end order ≡ stored_end end order
    pub ran : (since : ℕ) (start : List Deed) → begins since start → HasRunBeside disk_says images end (stores_of order) tables journal since start (map placed_of order)
    pub written : (since : ℕ) (past : Past) (start : List Deed) (c : Chronicle) → begins since start → masters past start c → HasFitGroups past tables journal (chronicle_after c order)
    pub followed : (archive : Archive D) → HasAllStored disk_says end images begins order archive → IsFollowed begins masters order (record { tables = tables; journal = journal; archive = archive })

  -- An archive in which the contents of an order's places were stored: what its disk may leave is among the images that tell so, it is used up to where
  -- they end, and contents can be stored there.
  pub record IsArchiveAfter (end : ℕ) (images : Files → Type 0) (begins : ℕ → List Deed → Type 0) (order : List Taken) (archive : Archive D) : Type 0 where
    pub used : used_of archive ≡ stored_end end order
    pub among : NoMore (images_after images end order) (disk_says.may_leave (archive_disk_of archive))
    pub room : AllReach (disk_says.may_leave (archive_disk_of archive)) (used_of archive)
    pub tells : (since : ℕ) (start : List Deed) → begins since start → (files : Files) × disk_says.seen (archive_disk_of archive) files

  -- some tables and a journal have run the places of an order
  abbrev pub WasRun : AllRows → ℕ → (Files → Type 0) → (ℕ → List Deed → Type 0) → Masters → List Taken → Type 0
  WasRun rows end images begins masters order = (tables : Tables) × ((journal : Journal D) × HasRunOrder rows end images begins masters order tables journal)

-- ---- places at which nothing is written

-- A place behind which the rows and the archive's end are as before: it changes and stores nothing, and if it is that of a fault, the archive's disk
-- failed. If it isn't, its request leaves the rows of each depot that has these.
pub record IsQuiet (begins : ℕ → List Deed → Type 0) (rows : AllRows) (end : ℕ) (entry : Taken) : Type 0 where
  pub unchanged : entry.changes ≡ []
  pub unstored : has_lane entry.lanes archive_lane ≡ true → (entry.stores ≡ []) × (entry.end ≡ end)
  pub written : is_unwritten entry ≡ false
  pub leaves : (since : ℕ) (start : List Deed) → begins since start → entry.fault ≡ false → LeavesRows rows entry.request

-- so is each of an order that doesn't touch the journal's lane, from these rows and this end of the archive on
abbrev pub AreQuiet : (ℕ → List Deed → Type 0) → AllRows → ℕ → List Taken → Type 0
AreQuiet begins rows end [] = Unit {0}
AreQuiet begins rows end (entry ∷ order) =
    (has_lane entry.lanes journal_lane ≡ false → IsQuiet begins rows end entry) × AreQuiet begins (rows_behind rows entry) (if has_lane entry.lanes archive_lane then entry.end else end) order

-- An order has one more place, at which the archive's disk failed: it touches the archive's lane, and nothing was stored.
pub record IsLostPlace (before after : List Taken) : Type 0 where
  pub entry : Taken
  pub placed : after ≡ before ++ entry ∷ []
  pub touches : has_lane entry.lanes archive_lane ≡ true
  pub unstored : entry.stores ≡ []
  pub lost : is_lost entry ≡ true

module _ {D : Type 0} (disk_says : DiskSays D) where
  -- What is kept of an order: tables show the rows after it, the places that don't touch the journal's lane are quiet, and it was run.
  pub record KeepsOrder (rows : AllRows) (end : ℕ) (images : Files → Type 0) (begins : ℕ → List Deed → Type 0) (masters : Masters) (order : List Taken) (tables : Tables) : Type 0 where
    pub shown : (table : TableId) → rows_of tables table ≡ rows_after rows order table
    pub quiet : AreQuiet begins rows end order
    pub run : WasRun disk_says rows end images begins masters order

-- Behind an order and a place at which something was to be written the rows are those after its changes, and so much of the archive is used.
pub record IsEntered (rows : AllRows) (end : ℕ) (order : List Taken) (entry : Taken) (used : ℕ) : Type 0 where
  pub writes : has_lane entry.lanes journal_lane ≡ true
  pub rows_are : (table : TableId) → rows_after rows (order ++ entry ∷ []) table ≡ changed_by (rows_after rows order) entry.changes table
  pub end_is : end_after end (order ++ entry ∷ []) ≡ used

-- Behind a beginning of an order nothing was written: the rows, the contents, the groups and the faults of the journal's disk are the same, as many of the
-- places are changes, and tables and a journal that have run the beginning have run the order.
module _ {D : Type 0} (disk_says : DiskSays D) where
  pub record GoesOnQuietly (rows : AllRows) (end : ℕ) (images : Files → Type 0) (begins : ℕ → List Deed → Type 0) (known order : List Taken) : Type 0 where
    pub begins_it : IsPrefix known order
    pub rows_are : rows_after rows order ≡ rows_after rows known
    pub end_is : end_after end order ≡ end_after end known
    pub stores : stores_of order ≡ stores_of known
    pub chronicle : (c : Chronicle) → chronicle_after c order ≡ chronicle_after c known
    pub idle : (n since : ℕ) (start : List Deed) → begins since start → Stand (rows_after rows known) (taken step start (map placed_of known)) → AreChanges n start (map placed_of known)
        → AreChanges n start (map placed_of order)
    pub unwritten : count_by is_unwritten order ≡ count_by is_unwritten known
    pub runs : (tables : Tables) (journal : Journal D) → ((table : TableId) → rows_of tables table ≡ rows_after rows known table) → (since : ℕ) (start : List Deed) → begins since start
        → HasRunBeside disk_says images end (stores_of known) tables journal since start (map placed_of known)
        → HasRunBeside disk_says images end (stores_of known) tables journal since start (map placed_of order)

  -- Behind an order a command has its place at which something was to be written: behind the beginning that the journal's lane knew nothing was; where the lock of
  -- the archive is held the entry touches the archive's lane, and says how much of it is used.
  pub record IsWrittenAt (rows : AllRows) (end : ℕ) (images : Files → Type 0) (begins : ℕ → List Deed → Type 0) (known order : List Taken) (held : Bool) (entry : Taken) : Type 0 where
    pub on : GoesOnQuietly rows end images begins known order
    pub touches : has_lane entry.lanes archive_lane ≡ held
    pub entered : IsEntered rows end order entry (if held then entry.end else end_after end order)

-- none of the places is that of a fault
abbrev pub AreFaultless : List Taken → Type 0
AreFaultless order = fault_count (map place_of order) ≡ 0

-- The count of a disk since a run began, after an order: it has risen once for each place at which the disk failed, and once more for each mark; where there is
-- neither a mark nor a place of a fault it stands.
pub record IsCountAfter (failed_at : Taken → Bool) (before now : ℕ) (order : List Taken) (marks : List Mark) : Type 0 where
  pub caused : counted (count_by failed_at order + length marks) before ≤ now
  pub no_fewer : before ≤ now
  pub stand : AreFaultless order → length marks ≡ 0 → now ≡ before

-- what is known once all threads have ended: the order, and all marks
pub record OpenedKnown : Type 0 where
  pub order : List Taken
  pub marks : List Mark
