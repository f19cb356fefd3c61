-- What a command has under the lock of the journal before it is committed, and what it is answered. This project's own choice.
use Rattle.std.specs.Prelude.{◌≡◌, ◌≢◌, ◌++◌, ℕ, Bool, true, false, IfSome, List, [], ◌∷◌, Option, Some, None}
use Rattle.std.specs.Sync.Mutex.{mutex_guard_value}
use Rattle.std.specs.declared.sync.MutexGuard.{MutexGuard}
use Rattle.depot_commit.specs.command_core.declared.outcome.Outcome.{Outcome}
use Rattle.depot_rows.specs.Standing.{Stand}
use Rattle.depot_rows.specs.db_records.declared.table.TableId.{TableId}
use Rattle.depot_rows.specs.depot_model.Deeds.{Deed}
use Rattle.depot_rows.specs.depot_model.declared.request.Request.{Request}
use Rattle.locked_tables.specs.Taken.{archive_lane, end_after, rows_after}
use Rattle.locked_tables.specs.declared.taken.Taken.{Taken}
use Rattle.order_words.specs.Lanes.{has_lane}
use Rattle.outside_api.specs.Count.{HasRisen}
use Rattle.outside_api.specs.Disk.{Files}
use Rattle.depot_commit.specs.Committing.{IsOutcomeOf}
use Rattle.depot_commit.specs.Holding.{KeepContents}
use Rattle.depot_commit.specs.Telling.{IsReplyOf, IsTold}
use Rattle.depot_commit.specs.declared.telling.Told.{Told}
use Rattle.depot_rows.specs.table_changes.Changed.{AllRows, changed_by, rows_of}
use Rattle.table_locks.specs.Prepared.{IsPrepared}
use Rattle.shared_depot.specs.Stored.{images_after, stored_end}
use Rattle.shared_depot.specs.declared.writing.Writing.{Writing}

-- if the lock of the archive is held, so much of the archive is used after the places that are known behind it
abbrev pub IsEndKnown : ℕ → ℕ → Option (MutexGuard (List Taken)) → Type 0
IsEndKnown end used archive = IfSome archive (λ guard. used ≡ end_after end (mutex_guard_value guard))

-- it is held, and so much of the archive is used
abbrev pub HoldsEnd : ℕ → ℕ → Option (MutexGuard (List Taken)) → Type 0
HoldsEnd end used None = ⊥
HoldsEnd end used (Some guard) = used ≡ end_after end (mutex_guard_value guard)

-- behind the lock of the archive, if it is held, an order is known
abbrev pub IsAtOrder : List Taken → Option (MutexGuard (List Taken)) → Type 0
IsAtOrder order archive = IfSome archive (λ guard. mutex_guard_value guard ≡ order)

module _ {S L : Type 0} where
  -- A command has its place behind an order: the archive's lane, if it is held, has learnt that, and what the entry says that it stored was stored. Where
  -- the archive's disk failed its count rose, and it stands where the place isn't that of a fault.
  pub record IsStoredBehind (Learns : List Taken → List Taken → L → L → Type 0) (held : Bool) (stores : List (List ℕ) → S → S → Type 0) (faults : S → ℕ) (lane lane' : L) (store store' : S) : Type 0 where
    pub order : List Taken
    pub entry : Taken
    pub learnt : Learns order (order ++ entry ∷ []) lane lane'
    pub touches : has_lane entry.lanes archive_lane ≡ held
    pub stored : stores entry.stores store store'
    pub caused : entry.lost ≡ true → HasRisen (faults store) (faults store')
    pub stand : entry.fault ≡ false → faults store' ≡ faults store

-- the outcome is the request's over the tables after the order, from each depot from which the run began
abbrev pub StandsAfter : AllRows → ℕ → (ℕ → List Deed → Type 0) → List Taken → Request → Outcome → Type 0
StandsAfter rows end begins order request outcome =
    (since : ℕ) (start : List Deed) → begins since start → IsOutcomeOf (rows_after rows order) (end_after end order) request outcome

-- What is printed is the reply for each depot for whose rows an outcome is the request's, if the images that tell the contents of an order's places have its
-- contents; where the run began from no depot that is known, nothing is said.
abbrev pub IsToldAfter : ℕ → (Files → Type 0) → (ℕ → List Deed → Type 0) → List Taken → Request → Outcome → Told → Type 0
IsToldAfter end images begins order request outcome told =
    (since : ℕ) (start : List Deed) → begins since start → (rows : AllRows) (from : ℕ) (d : List Deed) → Stand rows d → IsOutcomeOf rows from request outcome
    → KeepContents (images_after images end order) (stored_end end order) rows d → IsReplyOf d request told

-- What is told is an outcome that is the request's after the order, and so is its reply.
pub record IsDueAfter (rows : AllRows) (end : ℕ) (images : Files → Type 0) (begins : ℕ → List Deed → Type 0) (order : List Taken) (request : Request) (told : Told) : Type 0 where
  pub outcome : Outcome
  pub tells : IsTold outcome request.number told
  pub stands : StandsAfter rows end begins order request outcome
  pub reply : IsToldAfter end images begins order request outcome told

module _ {N : Type 0} where
  -- What a command has for its commit behind an order: room is made for what it changes, the versions that are to follow, and the tables after the changes, twice;
  -- something changes, each content was read, and what is told is due.
  pub record IsWritingFor (rows : AllRows) (end : ℕ) (images : Files → Type 0) (begins : ℕ → List Deed → Type 0) (order : List Taken) (writing : Writing N) : Type 0 where
    pub prepared : IsPrepared rows writing.told.changes writing.held.items
    pub after : (table : TableId) → rows_of writing.after table ≡ changed_by (rows_after rows order) writing.told.changes table
    pub shown : rows_of writing.shown ≡ rows_of writing.after
    pub some : writing.told.changes ≢ []
    pub read : writing.told.unread ≡ false
    pub due : IsDueAfter rows end images begins order writing.request writing.told
