-- What the journal's disk may have while the files of an empty depot are made. That the root is written last is this project's own choice.
use Rattle.std.specs.Prelude.{◌≡◌, ◌⊎◌, ◌<◌, ℕ, []}
use Rattle.outside_api.specs.Disk.{Files}
use Rattle.depot_rows.specs.db_records.declared.table.TableId.{TableId}
use Rattle.disk_journal.specs.Images.{IsRoot}
use Rattle.disk_journal.specs.Made.{HasFirstFiles, SameOthers}
use Rattle.depot_rows.specs.table_changes.Changed.{AllRows}
use Rattle.recovery.specs.Holding.{Hold}
use Rattle.recovery.specs.Standing.{StandFor}

-- But for its root the image is that of an empty depot: with the root of the first generation it stands for one, whatever the archive has.
pub record IsEmptyButRoot (image : Files) : Type 0 where
  pub first : HasFirstFiles image
  pub stands : (archive : Files) → IsRoot 0 (image 0) → StandFor [] image archive

-- Nothing is made: the root has no bytes, and neither has a file behind the first checkpoint and the first journal.
pub record IsBare (image : Files) : Type 0 where
  pub root : image 0 ≡ []
  pub others : (f : ℕ) → 2 < f → image f ≡ []

-- where the files hold rows at all, there is none
abbrev pub HoldsNoRow : Files → Type 0
HoldsNoRow image = (rows : AllRows) → Hold image rows → (table : TableId) → rows table ≡ []

-- From an image before to one of the making: the other files are the same, and so is the root until the rest is that of an empty depot. Where nothing was
-- made before, the files hold no row, whatever a stop inside the root's own write leaves of it.
pub record IsMaking (old new : Files) : Type 0 where
  pub others : SameOthers old new
  pub root_last : (new 0 ≡ old 0) ⊎ IsEmptyButRoot new
  pub bare : IsBare old → HoldsNoRow new
