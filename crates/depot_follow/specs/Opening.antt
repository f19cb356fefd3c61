-- What opening the two disks of an upstream and of a node leaves of them (Server Administrator Guide, "Replication"; that the files of a node are made where
-- there are none is this project's own choice).
use Rattle.std.specs.Prelude.{◌≡◌, ◌≢◌, ◌⊎◌, ◌≤◌, [], length}
use Rattle.outside_api.specs.Count.{HasRisen}
use Rattle.outside_api.specs.Disk.{Files}
use Rattle.outside_api.specs.Says.{DiskSays}
use Rattle.depot_rows.specs.table_changes.Changed.{AllRows, rows_of}
use Rattle.recovery.specs.Contents.{HoldWhole}
use Rattle.recovery.specs.Damage.{IsDamage}
use Rattle.recovery.specs.Faults.{SaysNothing, Tells}
use Rattle.recovery.specs.Holding.{Hold}
use Rattle.recovery.specs.Opening.{HasSynced, LooksOnly}
use Rattle.recovery.specs.declared.fault.OpenFault.{OpenFault}
use Rattle.recovery.specs.declared.fault.OpenFault.TheVariants.{DiskFault, Unmade}
use Rattle.replica_chain.specs.Chronicle.{Chronicle}
use Rattle.replica_chain.specs.Node.{IsNode, files_of}
use Rattle.replica_chain.specs.Opening.{AreWritten, IsFresh}
use Rattle.replica_chain.specs.declared.node.Node.{Node}
use Rattle.replica_chain.specs.declared.node.Pair.{Pair}
use Rattle.replica_chain.specs.declared.opening.NotNode.{NotNode}

-- those of files that weren't opened
abbrev pub left_by : {D : Type 0} → NotNode D → Pair D
left_by found = record { journal = found.journal; archive = found.archive }

-- what is there before the first change
abbrev pub no_changes : Chronicle
no_changes = record { closed = []; newest = [] }

module _ {D : Type 0} (disk_says : DiskSays D) where
  -- a count of the two disks has risen
  abbrev pub PairRose : Pair D → Pair D → Type 0
  PairRose old new = HasRisen (disk_says.faults old.journal) (disk_says.faults new.journal) ⊎ HasRisen (disk_says.faults old.archive) (disk_says.faults new.archive)

  -- neither count falls
  pub record NeverFalls (old new : Pair D) : Type 0 where
    pub journal : disk_says.faults old.journal ≤ disk_says.faults new.journal
    pub archive : disk_says.faults old.archive ≤ disk_says.faults new.archive

  -- Both disks read as before, and a crash leaves what they read.
  pub record PairSynced (old new : Pair D) : Type 0 where
    pub journal : HasSynced disk_says old.journal new.journal
    pub archive : HasSynced disk_says old.archive new.archive

  -- Each image of both disks, at every moment, is one that they had.
  pub record PairLooked (old new : Pair D) : Type 0 where
    pub journal : LooksOnly disk_says old.journal new.journal
    pub archive : LooksOnly disk_says old.archive new.archive

  -- the root of the journal's disk is empty
  abbrev pub IsBare : Pair D → Type 0
  IsBare files = (j : Files) × disk_says.seen files.journal j × (length (j 0) ≡ 0)

  -- it isn't
  abbrev pub IsThere : Pair D → Type 0
  IsThere files = (j : Files) × disk_says.seen files.journal j × (length (j 0) ≢ 0)

  -- both disks tell what they read
  abbrev pub TellBoth : Pair D → Type 0
  TellBoth files = ((j : Files) × disk_says.seen files.journal j) × ((a : Files) × disk_says.seen files.archive a)

  -- The files were written from the first change on, and have these changes.
  abbrev pub HaveWritten : Pair D → Chronicle → Type 0
  HaveWritten files c = (j a : Files) × disk_says.seen files.journal j × disk_says.seen files.archive a × AreWritten c j

  -- The files were opened: both disks only synced, nothing is in doubt, and the node's rows are those that the files hold. Of files that were written from the first
  -- change on the node has all changes.
  pub record IsOpenedFrom (files : Pair D) (node : Node D) : Type 0 where
    pub holds : (j : Files) → disk_says.seen files.journal j → Hold j (rows_of node.tables)
    pub synced : PairSynced files (files_of node)
    pub looked : PairLooked files (files_of node)
    pub never_falls : NeverFalls files (files_of node)
    pub has : (c : Chronicle) → HaveWritten files c → IsNode disk_says node c
    pub fresh : IsFresh disk_says node

  -- They weren't, for this fault, which says what they read: that the root is empty, or where they are damaged. Files that hold rows which suit them, with their
  -- contents, are neither.
  pub record IsNotOpened (files : Pair D) (fault : OpenFault) (left : Pair D) : Type 0 where
    pub damage : (j a : Files) → disk_says.seen files.journal j → disk_says.seen files.archive a → Tells (IsDamage j a) fault
    pub unmade : (j : Files) → disk_says.seen files.journal j → fault ≡ Unmade → length (j 0) ≡ 0
    pub whole : (j a : Files) (rows : AllRows) → disk_says.seen files.journal j → disk_says.seen files.archive a → HoldWhole j a rows → SaysNothing fault
    pub synced : fault ≢ DiskFault → PairSynced files left
    pub looked : PairLooked files left
    pub risen : fault ≡ DiskFault → PairRose files left

  -- They were opened as they were; or, where their root was empty, they were made, and the node has no change.
  pub record IsOpenedOrMade (files : Pair D) (node : Node D) : Type 0 where
    pub there : IsThere files → IsOpenedFrom files node
    pub bare : IsBare files → TellBoth (files_of node) → IsNode disk_says node no_changes
    pub fresh : IsFresh disk_says node
    pub never_falls : NeverFalls files (files_of node)

  -- They weren't opened as they were; or, where their root was empty, for a fault that says nothing of what they read. Where a disk has failed nothing more is said.
  pub record IsNotOpenedOrMade (files : Pair D) (fault : OpenFault) (left : Pair D) : Type 0 where
    pub there : IsThere files → fault ≢ DiskFault → IsNotOpened files fault left
    pub bare : IsBare files → TellBoth left → SaysNothing fault
    pub risen : fault ≡ DiskFault → PairRose files left
