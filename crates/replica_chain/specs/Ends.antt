-- A journal as the next node follows it. This project's own choice.
use Rattle.std.specs.Prelude.{ℕ, List}
use Rattle.outside_api.specs.Says.{DiskSays, LinkSays}
use Rattle.depot_rows.specs.db_records.declared.change.Change.{Change}
use Rattle.disk_journal.specs.Images.{Committed}
use Rattle.disk_journal.specs.Keeping.{KeepsOlder}
use Rattle.disk_journal.specs.Scanned.{HasScanned}
use Rattle.disk_journal.specs.Stands.{Doubtful, Stands, disk_of}
use Rattle.disk_journal.specs.declared.journal.Journal.{Journal}
use Rattle.recovery.specs.Looking.{OnlyReads}
pub use Rattle.recovery.specs.Texts.{HasTexts}
use Rattle.replica_pull.specs.Prefix.{IsJournalOf}
use Rattle.replica_chain.specs.declared.link.NodeLink.{NodeLink}

-- where a link has scanned a closed generation to, a mark stands, by what its journal's disk reads
abbrev pub IsScanned : {D : Type 0} → DiskSays D → NodeLink D → Type 0
IsScanned disk_says link = HasScanned disk_says (disk_of link.journal) link.scanned

-- so it does still
abbrev pub KeepsScanned : {D : Type 0} → DiskSays D → NodeLink D → NodeLink D → Type 0
KeepsScanned disk_says old new = IsScanned disk_says old → IsScanned disk_says new

-- What a node's journal tells the next node: its texts, where they are those of whole groups, as each journal's are that these calls wrote, and where it is scanned
-- on from a mark. Another tells nothing.
pub record TellsTexts {D : Type 0} (disk_says : DiskSays D) (link : NodeLink D) (texts : List (List ℕ)) : Type 0 where
  pub has : HasTexts disk_says link.journal texts
  pub generations : List (List (List Change))
  pub of_groups : IsJournalOf texts generations
  pub scanned : IsScanned disk_says link

-- A journal was looked at: it has what it had, its disk reads as before, and each image of it is one that it had, at every moment.
pub record IsLooked {D : Type 0} (disk_says : DiskSays D) (old new : Journal D) : Type 0 where
  pub stands : (was : Committed) (doubt : Doubtful) → Stands disk_says old was doubt → Stands disk_says new was doubt
  pub keeps : (older : List (List (List ℕ))) → KeepsOlder disk_says old older → KeepsOlder disk_says new older
  pub reads : OnlyReads disk_says (disk_of old) (disk_of new)

-- The journal of a link was looked at, and scanned on from a mark to a mark.
pub record IsLinkLooked {D : Type 0} (disk_says : DiskSays D) (old new : NodeLink D) : Type 0 where
  pub journal : IsLooked disk_says old.journal new.journal
  pub scanned : KeepsScanned disk_says old new

-- what a node's link says
abbrev pub link_says : {D : Type 0} → DiskSays D → LinkSays (NodeLink D)
link_says disk_says = record { tells = TellsTexts disk_says; faults = λ link. disk_says.faults (disk_of link.journal); keeps = IsLinkLooked disk_says }
