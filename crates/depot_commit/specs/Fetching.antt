-- The journal and the archive of a depot, as who fetches of them sees them. This project's own choice.
use Rattle.std.specs.Prelude.{◌≡◌}
use Rattle.archive_file.specs.Archive.{disk_of as archive_disk_of, used_of}
use Rattle.archive_file.specs.declared.archive.Archive.{Archive}
use Rattle.outside_api.specs.Disk.{NoMore, Same}
use Rattle.outside_api.specs.Moments.{LeavesOnly}
use Rattle.outside_api.specs.Says.{DiskSays}
use Rattle.disk_journal.specs.Images.{Committed}
use Rattle.disk_journal.specs.Stands.{Doubtful, Stands, disk_of}
use Rattle.disk_journal.specs.declared.journal.Journal.{Journal}
use Rattle.recovery.specs.Chronicle.{Chronicle}
pub use Rattle.recovery.specs.Texts.{HasTexts}
use Rattle.depot_commit.specs.Growing.{HasGroups}

-- Bytes of a journal were read, if any: it has what it had, and a crash meanwhile leaves nothing that one before mightn't.
pub record IsFetched {D : Type 0} (disk_says : DiskSays D) (old new : Journal D) : Type 0 where
  pub stands : (was : Committed) (doubt : Doubtful) → Stands disk_says old was doubt → Stands disk_says new was doubt
  pub any_moment : LeavesOnly disk_says (disk_of old) (disk_of new) (disk_says.may_leave (disk_of old))
  pub groups : (c : Chronicle) → HasGroups disk_says old c → HasGroups disk_says new c

-- Contents of an archive were read, if any: its disk tells what it told, and a crash leaves nothing that one before mightn't.
pub record IsRead {D : Type 0} (disk_says : DiskSays D) (old new : Archive D) : Type 0 where
  pub same : Same (disk_says.seen (archive_disk_of old)) (disk_says.seen (archive_disk_of new))
  pub crash : NoMore (disk_says.may_leave (archive_disk_of old)) (disk_says.may_leave (archive_disk_of new))
  pub used : used_of new ≡ used_of old
