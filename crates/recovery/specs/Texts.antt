-- The texts of a journal, as who fetches of it sees them. This project's own choice.
use Rattle.std.specs.Prelude.{◌≡◌, ℕ, List, length}
use Rattle.outside_api.specs.Disk.{Files}
use Rattle.outside_api.specs.Says.{DiskSays}
use Rattle.disk_journal.specs.Images.{Committed}
use Rattle.disk_journal.specs.Older.{AreOlder, texts as texts_with}
use Rattle.disk_journal.specs.Stands.{Doubtful, Stands, disk_of}
use Rattle.disk_journal.specs.declared.journal.Journal.{Journal}

-- A journal has these texts, those of its generations from 0 on, the newest last: what is committed of the newest, and what stands on the disk
-- of each before it. What is in doubt is none of them.
pub record HasTexts {D : Type 0} (disk_says : DiskSays D) (journal : Journal D) (texts : List (List ℕ)) : Type 0 where
  pub was : Committed
  pub doubt : Doubtful
  pub before : List (List (List ℕ))
  pub files : Files
  pub stands : Stands disk_says journal was doubt
  pub sees : disk_says.seen (disk_of journal) files
  pub as_many : length before ≡ was.generation
  pub older : AreOlder before files
  pub are : texts ≡ texts_with before was
