use Rattle.std.proofs.Common.{[], Vec, Global}
use Rattle.std.specs.List.{AllByRecursion}
use Rattle.archive_file.specs.Archive.{disk_of as archive_disk_of}
use Rattle.depot_model.specs.declared.request.Request.{Request}
use Rattle.disk_journal.specs.Stands.{disk_of}
use Rattle.run_parties.specs.replica_turns.Master.{IsMaster}
use Rattle.run_parties.specs.serial_depot.Running.{HasRun}
use Rattle.session_loop.specs.Taking.{IsProper}
use Rattle.shared_depot.specs.Sharing.{places_in}
use Rattle.table_changes.specs.Changed.{rows_of}
use Rattle.party_threads.proofs.run.run_on_threads.Given as goal

-- the words that were just made, the tables and the archive as they are, and as many places as requests
abbrev pub ghosts-run_named-N-Naming : goal.ghosts-run_named-N-Naming
ghosts-run_named-N-Naming g a = record { run = a.brought.words.places.orders; rows = rows_of a.depot.tables; end = a.depot.tables.archive_end; places = places_in a.brought.places.items }

-- the words of the marks
abbrev pub ghosts-run_named-N-Marking : goal.ghosts-run_named-N-Marking
ghosts-run_named-N-Marking g a = record { marks = a.brought.words.marks.orders }

-- the depots from which the depot in files has run no place, where all requests are proper, and those from which replicas follow it
abbrev pub ghosts-run_named-N-Serving : goal.ghosts-run_named-N-Serving
ghosts-run_named-N-Serving g a = record {
  begins = λ since start.
      AllByRecursion (λ (own : Vec Request Global). AllByRecursion IsProper own.items) a.brought.requests.items × HasRun g.D.Disk.says a.depot since start [];
  masters = λ past start c. IsMaster g.D.Disk.says past start [] a.depot c;
  faults = g.D.Disk.says.faults (disk_of a.depot.journal);
  content_faults = g.D.Disk.says.faults (archive_disk_of a.depot.archive);
  content_marks = a.brought.words.content_marks.orders;
}

-- what the archive's disk may leave
abbrev pub ghosts-run_named-N-Imaging : goal.ghosts-run_named-N-Imaging
ghosts-run_named-N-Imaging g a = record { images = g.D.Disk.says.may_leave (archive_disk_of a.depot.archive) }
