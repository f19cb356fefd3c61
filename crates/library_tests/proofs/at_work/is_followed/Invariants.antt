use Rattle.std.proofs.Common.{[]}
use Rattle.archive_file.specs.Archive.{disk_of as archive_disk_of}
use Rattle.depot_rows.specs.table_changes.Changed.{rows_of}
use Rattle.disk_journal.specs.Stands.{disk_of}
use Rattle.replica_turns.specs.Master.{IsMaster}
use Rattle.serial_depot.specs.Running.{HasRun}
use Rattle.shared_depot.specs.Sharing.{places_in}
use Rattle.library_tests.proofs.at_work.is_followed.Given as goal

-- the words that were just made, the tables and the archive as they are, and as many places as were said
abbrev pub ghosts-shares_and_follows-N-Naming : goal.ghosts-shares_and_follows-N-Naming
ghosts-shares_and_follows-N-Naming g a = record { run = a.words.0; rows = rows_of a.depot.tables; end = a.depot.tables.archive_end; places = places_in a.places.now }

-- the words of the marks
abbrev pub ghosts-shares_and_follows-N-Marking : goal.ghosts-shares_and_follows-N-Marking
ghosts-shares_and_follows-N-Marking g a = record { marks = a.mark_words.0 }

-- the depots from which the depot in files has run no place, and those from which replicas follow it
abbrev pub ghosts-shares_and_follows-N-Serving : goal.ghosts-shares_and_follows-N-Serving
ghosts-shares_and_follows-N-Serving g a = record {
  begins = λ since start. HasRun g.D.Disk.says a.depot since start [];
  masters = λ past start c. IsMaster g.D.Disk.says past start [] a.depot c;
  faults = g.D.Disk.says.faults (disk_of a.depot.journal);
  content_faults = g.D.Disk.says.faults (archive_disk_of a.depot.archive);
  content_marks = a.content_words.0;
}

-- what the archive's disk may leave
abbrev pub ghosts-shares_and_follows-N-Imaging : goal.ghosts-shares_and_follows-N-Imaging
ghosts-shares_and_follows-N-Imaging g a = record { images = g.D.Disk.says.may_leave (archive_disk_of a.depot.archive) }
