use Rattle.std.proofs.Common.{ap, ◌∙◌}
use Rattle.depot_rows.specs.table_changes.Changed.{rows_of}
use Rattle.p4_server.proofs.Dumps.{dumps_unopened, dumps_opened}
use Rattle.p4_server.proofs.Openings.{unopened_of, read_at_start}
use Rattle.p4_server.proofs.dump.dump.Goals as goal

pub returns-in-Err-clause-dumps : goal.returns-in-Err-clause-dumps
returns-in-Err-clause-dumps g c =
    let opens = c.in-Err.ensures in
    let end = c.end_unopened.ensures in
    dumps_unopened _ _ _ _ (unopened_of _ _ _ _ _ _ end.journal end.archive c.in-Err.found.fault end.told end.cause
    opens.journal_told opens.archive_told opens.journal_looks.no_more opens.archive_looks.no_more opens.journal_looks.any_moment opens.archive_looks.any_moment opens.unmade opens.exactly (λ j a d j_reads a_reads stand. (opens.stands j a d j_reads a_reads stand).0) opens.damaged opens.cause opens.unopened opens.unfailed)

pub returns-in-Ok-clause-dumps : goal.returns-in-Ok-clause-dumps
returns-in-Ok-clause-dumps g c =
    let opens = c.in-Ok.ensures in
    let end = c.dump_opened.ensures in
    dumps_opened _ _ _ _ (rows_of c.in-Ok.opened.tables) end.unrun end.printed opens.held opens.whole
    (λ d start. (opens.stands start.journal_files start.archive_files d start.journal_reads start.archive_reads start.stand).1)
    (record { journal = rw end.journal opens.journal_synced; archive = rw end.archive opens.archive_synced })
    (rw end.journal (read_at_start _ _ _ opens.journal_synced)) (rw end.archive (read_at_start _ _ _ opens.archive_synced)) (rw end.journal opens.journal_looks.any_moment) (rw end.archive opens.archive_looks.any_moment)
    (let stood = opens.unfailed (λ no. no) in record { journal = ap g.D.Disk.says.faults end.journal ∙ stood.0; archive = ap g.D.Disk.says.faults end.archive ∙ stood.1 })
