-- When the journals of the generations before the newest stay on the disk of a journal.
use Rattle.std.specs.Prelude.{◌≡◌, ℕ, List, length}
use Rattle.outside_api.specs.Disk.{Files}
use Rattle.outside_api.specs.Says.{DiskSays}
use Rattle.disk_journal.specs.Older.{AreOlder}
use Rattle.disk_journal.specs.Stands.{disk_of, generation_of_journal}
use Rattle.disk_journal.specs.declared.journal.Journal.{Journal}

-- A disk that tells what it reads, each image of which has these groups in the files of the generations before the journal's.
pub record KeepsOlder {D : Type 0} (disk_says : DiskSays D) (journal : Journal D) (older : List (List (List ℕ))) : Type 0 where
  pub tells : (files : Files) × disk_says.seen (disk_of journal) files
  pub count : length older ≡ generation_of_journal journal
  pub each : (image : Files) → disk_says.may_leave (disk_of journal) image → AreOlder older image
