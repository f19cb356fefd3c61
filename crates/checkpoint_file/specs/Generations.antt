-- What files hold while the next generation is begun (System Administrator Guide, "Backup and recovery"; the layout of the files is this project's own
-- choice).
use Rattle.std.specs.Prelude.{◌≡◌, ◌⊎◌, ◌≤◌, ◌+◌, ℕ, List, ◌∷◌, Some, length, codes}
use Rattle.outside_api.specs.Disk.{Files}
use Rattle.depot_rows.specs.db_records.declared.key.Key.TheVariants as keys
use Rattle.depot_rows.specs.db_records.declared.table.TableId.TheVariants.{Rev}
use Rattle.depot_rows.specs.depot_model.Deeds.{Deed, Count}
use Rattle.depot_rows.specs.depot_model.Records.{record_of}
use Rattle.depot_rows.specs.depot_model.Rules.{value_of}
use Rattle.depot_rows.specs.Standing.{Stand}
use Rattle.disk_journal.specs.Images.{Committed, HasCommitted, with_generation}
use Rattle.recovery.specs.Holding.{HasAllRows, spots_end}
use Rattle.recovery.specs.Rules.{DeletesAreUnplaced}
use Rattle.recovery.specs.Standing.{HasContents, StandFor}
use Rattle.depot_rows.specs.table_changes.Changed.{AllRows}
use Rattle.checkpoint_file.specs.Checkpoint.{IsCheckpointOf}

-- An image has what is committed, which has these rows.
pub record Holds (was : Committed) (rows : AllRows) (image : Files) : Type 0 where
  pub committed : HasCommitted was image
  pub has : HasAllRows was rows

-- The image holds the rows before; or it is of the next generation, with this checkpoint and the rows after.
abbrev pub HoldsEither : Committed → AllRows → List ℕ → AllRows → Files → Type 0
HoldsEither was rows text after image = Holds was rows image ⊎ Holds (with_generation was text) after image

-- the depot whose counter `journal` tells this generation
abbrev pub of_generation : ℕ → List Deed → List Deed
of_generation generation d = Count (codes "journal") (Some generation) ∷ d

-- What is committed has the rows of a depot, deleted revisions having no place, and an image of the archive's disk has its contents.
pub record IsOfDepot (was : Committed) (rows : AllRows) (d : List Deed) (archive : Files) : Type 0 where
  pub has : HasAllRows was rows
  pub stand : Stand rows d
  pub deletes : DeletesAreUnplaced (rows Rev)
  pub generation : value_of (record_of d (keys.Counter (codes "journal"))) ≡ was.generation
  pub within : spots_end (rows Rev) ≤ length (archive 0)
  pub contents : HasContents (archive 0) rows d

-- The text is that of a checkpoint of the next generation, with the rows of the depot that tells it; the rows of revisions are as before.
pub record IsNext (was : Committed) (rows : AllRows) (d : List Deed) (text : List ℕ) : Type 0 where
  pub after : AllRows
  pub checkpoint : IsCheckpointOf (was.generation + 1) after text
  pub stand : Stand after (of_generation (was.generation + 1) d)
  pub revisions : after Rev ≡ rows Rev

-- the image stands for the depot, or for that depot with the next generation
abbrev pub StandsForEither : ℕ → List Deed → Files → Files → Type 0
StandsForEither generation d archive image = StandFor d image archive ⊎ StandFor (of_generation generation d) image archive
