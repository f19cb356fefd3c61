use Rattle.archive_file.specs.Archive.{disk_of}
use Rattle.serial_depot.proofs.depot.SerialDepot.place_outcome.Given as goal

-- the images that the archive's disk may leave before contents are stored
abbrev pub ghosts-place : goal.ghosts-place
ghosts-place g a = record { images = g.D.Disk.says.may_leave (disk_of a.store.now) }
