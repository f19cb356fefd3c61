-- A checkpoint that is taken with no rights asked (Command-Line Reference, "p4 admin"; Server Administrator Guide, "Backup and recovery").
use Rattle.std.specs.Prelude.{◌≡◌, ◌≢◌, ◌⊎◌, ◌+◌, ℕ, List, [], ◌∷◌, ◌++◌, Option, Some, None, nat_le, if◌then◌else◌}
use Rattle.outside_api.specs.Disk.{Files}
use Rattle.outside_api.specs.Says.{DiskSays}
use Rattle.depot_rows.specs.db_records.declared.change.Change.{Change}
use Rattle.depot_rows.specs.depot_model.Deeds.{Deed}
use Rattle.depot_rows.specs.depot_model.Step.{after}
use Rattle.depot_rows.specs.depot_model.Steps.Checkpoint.{checkpoint}
use Rattle.depot_rows.specs.Standing.{Stand}
use Rattle.depot_rows.specs.table_changes.Changed.{AllRows, changed_by}
use Rattle.disk_journal.specs.Images.{Committed, with_generation}
use Rattle.disk_journal.specs.Keeping.{KeepsOlder}
use Rattle.disk_journal.specs.Stands.{Doubtful, group, nothing, opening, Stands}
use Rattle.disk_journal.specs.declared.journal.Journal.{Journal}
use Rattle.recovery.specs.Holding.{HasAllRows}
use Rattle.recovery.specs.Standing.{StandFor}
use Rattle.row_changes.specs.Differences.{AreDifferences}
use Rattle.step_limits.specs.Limits.{generation_in}

-- the generation that is begun behind this one; behind generation 4,095 there is none
abbrev pub next_generation : ℕ → Option ℕ
next_generation generation = if nat_le 4095 generation then None else Some (generation + 1)

-- the depot after the deeds of `admin checkpoint`, which are none at the last generation
abbrev pub checkpointed : List Deed → List Deed
checkpointed d = after d (checkpoint d).deeds

-- an image of the journal's disk, with one of the archive's, stands for the depot, or for the depot after the checkpoint
abbrev pub StandsBeforeOrAfter : List Deed → Files → Files → Type 0
StandsBeforeOrAfter d archive image = StandFor d image archive ⊎ StandFor (checkpointed d) image archive

-- ---- the groups of the journal

-- With the text of the next generation's checkpoint, what is committed has the rows after the changes of the depot's checkpoint, of which there are some.
pub record IsNextOf (was : Committed) (rows : AllRows) (d : List Deed) (text : List ℕ) : Type 0 where
  pub changes : List Change
  pub some : changes ≢ []
  pub differences : AreDifferences rows d (checkpointed d) changes
  pub has : HasAllRows (with_generation was text) (changed_by rows changes)

-- what may be in doubt: nothing, or the next generation
abbrev pub MayBeNext : Committed → AllRows → List Deed → Doubtful → Type 0
MayBeNext was rows d nothing = Unit {0}
MayBeNext was rows d (opening text) = IsNextOf was rows d text
MayBeNext was rows d (group text) = ⊥

module _ {D : Type 0} (disk_says : DiskSays D) (journal : Journal D) (was : Committed) (rows : AllRows) (d : List Deed) (older : List (List (List ℕ))) where
  -- A journal with nothing in doubt: what is committed has the rows of a depot, which tells its generation, and the disk keeps the groups of the generations
  -- before.
  pub record CanBegin : Type 0 where
    pub stands : Stands disk_says journal was nothing
    pub has : HasAllRows was rows
    pub stand : Stand rows d
    pub generation : generation_in d ≡ was.generation
    pub keeps : KeepsOlder disk_says journal older

  -- The next generation has begun, and the groups of the one that was the newest are kept among those before.
  pub record HasBegun : Type 0 where
    pub text : List ℕ
    pub next : IsNextOf was rows d text
    pub stands : Stands disk_says journal (with_generation was text) nothing
    pub keeps : KeepsOlder disk_says journal (older ++ was.groups ∷ [])

  -- It hasn't, or is in doubt.
  pub record MayHaveBegun : Type 0 where
    pub doubt : Doubtful
    pub next : MayBeNext was rows d doubt
    pub stands : Stands disk_says journal was doubt
    pub keeps : KeepsOlder disk_says journal older
