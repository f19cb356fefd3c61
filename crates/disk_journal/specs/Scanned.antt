-- What is known of the text of a closed generation that was scanned before. That it is remembered is this project's own choice.
use Rattle.std.specs.Prelude.{◌+◌, ◌*◌, ℕ, List}
use Rattle.outside_api.specs.Disk.{Files}
use Rattle.outside_api.specs.Says.{DiskSays}
use Rattle.disk_journal.specs.Fetch.{IsReached}
use Rattle.disk_journal.specs.Older.{IsClosed}
use Rattle.disk_journal.specs.declared.scanned.Scanned.{Scanned}

-- the place is that of a mark, whichever groups the file begins with
abbrev pub IsMarkOf : Scanned → List ℕ → Type 0
IsMarkOf scanned file = (groups : List (List ℕ)) → IsClosed groups file → IsReached groups scanned.place

-- so it is in the files that a disk reads
abbrev pub HasScanned : {D : Type 0} → DiskSays D → D → Scanned → Type 0
HasScanned disk_says disk scanned = (files : Files) → disk_says.seen disk files → IsMarkOf scanned (files (1 + 2 * scanned.generation))
