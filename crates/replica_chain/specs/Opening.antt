-- What opening a node answers, and of which files it says how far the node is. This project's own choice.
use Rattle.std.specs.Prelude.{◌≡◌, [], length, map, Result, Ok, Err}
use Rattle.std.specs.List.{AllByRecursion}
use Rattle.outside_api.specs.Disk.{Files}
use Rattle.outside_api.specs.Says.{DiskSays}
use Rattle.archive_file.specs.Archive.{disk_of as archive_disk_of, used_of}
use Rattle.depot_rows.specs.db_records.declared.table.TableId.TheVariants.{Rev}
use Rattle.depot_rows.specs.table_changes.Changed.{AllRows, rows_of}
use Rattle.disk_journal.specs.Images.{Committed, HasCommitted}
use Rattle.disk_journal.specs.Older.{AreOlder}
use Rattle.disk_journal.specs.Stands.{disk_of}
use Rattle.journal_groups.specs.Groups.{IsGroup}
use Rattle.recovery.specs.Faults.{SaysNothing}
use Rattle.recovery.specs.Holding.{Hold, group_texts, spots_end}
use Rattle.recovery.specs.declared.fault.OpenFault.TheVariants.{DiskFault, Unmade}
use Rattle.replica_chain.specs.Chronicle.{Chronicle, generations_of, rows_made}
use Rattle.replica_chain.specs.Node.{IsSettled}
use Rattle.replica_chain.specs.declared.node.Node.{Node}
use Rattle.replica_chain.specs.declared.opening.NotNode.{NotNode}

-- The files of a journal's disk as the program writes them, from the first change on: the groups of these changes, each in its generation's file, make the
-- rows that the files hold.
pub record AreWritten (c : Chronicle) (files : Files) : Type 0 where
  pub are_groups : AllByRecursion (AllByRecursion IsGroup) (generations_of c)
  pub older : AreOlder (map (group_texts 1) c.closed) files
  pub generation : (was : Committed) → HasCommitted was files → was.generation ≡ length c.closed
  pub newest_are : (was : Committed) → HasCommitted was files → was.groups ≡ group_texts 1 c.newest
  pub rows : (rows : AllRows) → Hold files rows → rows ≡ rows_made c

-- A node keeps nothing behind its changes, nothing of it is in doubt, and its archive is used as far as the spots of its rows.
pub record IsFresh {D : Type 0} (disk_says : DiskSays D) (node : Node D) : Type 0 where
  pub rest : node.rest ≡ []
  pub settled : IsSettled disk_says node
  pub used : used_of node.archive ≡ spots_end (rows_of node.tables Rev)

-- the two disks, whatever is answered
abbrev pub journal_disk : {D : Type 0} → Result (Node D) (NotNode D) → D
journal_disk (Ok node) = disk_of node.link.journal
journal_disk (Err found) = found.journal

abbrev pub archive_disk : {D : Type 0} → Result (Node D) (NotNode D) → D
archive_disk (Ok node) = archive_disk_of node.archive
archive_disk (Err found) = found.archive

-- the fault is that a disk has failed
abbrev pub IsDiskFault : {D : Type 0} → Result (Node D) (NotNode D) → Type 0
IsDiskFault (Ok node) = ⊥
IsDiskFault (Err found) = found.fault ≡ DiskFault

-- it is that there are no files
abbrev pub IsUnmade : {D : Type 0} → Result (Node D) (NotNode D) → Type 0
IsUnmade (Ok node) = ⊥
IsUnmade (Err found) = found.fault ≡ Unmade

-- it was opened, or the fault says nothing of what the files read
abbrev pub OpensOrSaysNothing : {D : Type 0} → Result (Node D) (NotNode D) → Type 0
OpensOrSaysNothing (Ok node) = Unit {0}
OpensOrSaysNothing (Err found) = SaysNothing found.fault
