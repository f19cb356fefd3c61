-- A run over the rows of tables and a journal.
use Rattle.std.specs.Prelude.{◌≡◌, ◌≢◌, ℕ, ◌≤◌, ◌+◌, true, List, [], ◌∷◌, ◌++◌, length}
use Rattle.outside_api.specs.Disk.{Files}
use Rattle.outside_api.specs.Says.{DiskSays}
use Rattle.depot_rows.specs.db_records.declared.change.Change.{Change}
use Rattle.disk_journal.specs.Images.{Committed}
use Rattle.disk_journal.specs.Stands.{Doubtful, nothing, Stands}
use Rattle.disk_journal.specs.declared.journal.Journal.{Journal}
use Rattle.depot_rows.specs.table_changes.Changed.{AllRows, changed_by, rows_of}
use Rattle.depot_rows.specs.table_store.declared.tables.Tables.{Tables}
use Rattle.depot_rows.specs.depot_model.Commands.{step}
use Rattle.depot_rows.specs.depot_model.Deeds.{Deed}
use Rattle.depot_runs.specs.Kept.{NoChange}
use Rattle.depot_rows.specs.depot_model.Places.{Placed, taken}
use Rattle.depot_rows.specs.depot_model.Step.{after}
use Rattle.depot_rows.specs.depot_model.declared.request.Request.{Request}
use Rattle.depot_rows.specs.Standing.{Stand}
use Rattle.recovery.specs.Holding.{HasAllRows}
use Rattle.session_loop.specs.Taking.{placed_by}
use Rattle.depot_commit.specs.Committing.{AreChangesOf}
use Rattle.depot_commit.specs.Growing.{IsWritten}
use Rattle.depot_commit.specs.Holding.{KeepContents, IsKeptSometime}
use Rattle.depot_commit.specs.Opening.{opens_generation}
use Rattle.depot_commit.specs.Writing.{with_doubtful}
use Rattle.step_limits.specs.Limits.{generation_in}
use Rattle.depot_facts.specs.Contents.{SameContents}

-- At these rows and what is committed this was written for a request, or is in doubt: the group of its changes, of which there are some, or the next
-- generation, if the request opens one. With it what is committed has the rows after the changes.
pub record IsWrittenFor (rows : AllRows) (was : Committed) (request : Request) (written : Doubtful) : Type 0 where
  pub changes : List Change
  pub some : changes ≢ []
  pub made : AreChangesOf rows request changes
  pub is : IsWritten (length was.groups + 1) (opens_generation request) written changes
  pub has : HasAllRows (with_doubtful was written) (changed_by rows changes)

-- What is in doubt is what a fault place wrote for its request, at these rows. No place after it is a change, so that the depot has the same rows and
-- contents as before it. These images of the archive's disk, which is used up to a place, have the contents with it too.
pub record IsOfFault (images : Files → Type 0) (used : ℕ) (rows : AllRows) (was : Committed) (doubt : Doubtful) (start : List Deed) (places : List Placed) : Type 0 where
  pub before : List Placed
  pub request : Request
  pub later : List Placed
  pub parts : places ≡ before ++ placed_by request true ∷ later
  pub quiet : NoChange (taken step start before) later
  pub stand : Stand rows (taken step start before)
  pub same_contents : SameContents (taken step start before) (taken step start places)
  pub writes : IsWrittenFor rows was request doubt
  pub kept : KeepContents images used (changed_by rows writes.changes) (after (taken step start before) (step (taken step start before) request).deeds)

-- what is in doubt after places: nothing, or the group or the generation of a fault place
abbrev pub IsDoubtOf : (Files → Type 0) → ℕ → AllRows → Committed → List Deed → List Placed → Doubtful → Type 0
IsDoubtOf images used rows was start places nothing = Unit {0}
IsDoubtOf images used rows was start places doubt = IsOfFault images used rows was doubt start places

-- A journal at which a group or a generation can be written: what is committed of it is known, and what is in doubt.
abbrev pub CanCommit : {D : Type 0} → DiskSays D → Journal D → Type 0
CanCommit disk_says journal = (was : Committed) × ((doubt : Doubtful) × Stands disk_says journal was doubt)

-- Since that moment tables and a journal took the commands of these places, from the depot `start` on, beside an archive whose disk may leave these images
-- and is used up to a place: the tables have the rows of the run, the journal has them too and at most one group or generation in doubt, each of the images
-- has the contents, below the end of what is used, and each image of the journal's disk since is kept for some of the places.
pub record HasRunOver {D : Type 0} (disk_says : DiskSays D) (images : Files → Type 0) (used : ℕ) (tables : Tables) (journal : Journal D) (since : ℕ) (start : List Deed) (places : List Placed) : Type 0 where
  pub was : Committed
  pub doubt : Doubtful
  pub stands : Stands disk_says journal was doubt
  pub has : HasAllRows was (rows_of tables)
  pub stand : Stand (rows_of tables) (taken step start places)
  pub generation : generation_in (taken step start places) ≡ was.generation
  pub kept : KeepContents images used (rows_of tables) (taken step start places)
  pub in_doubt : IsDoubtOf images used (rows_of tables) was start places doubt
  pub later : since ≤ disk_says.moment journal.disk
  pub any_moment : (image : Files) → disk_says.left_since journal.disk since image → IsKeptSometime images used start places image
