use Rattle.std.proofs.Common.{[], ◌∙◌, ap}
use Rattle.archive_file.specs.Archive as archives
use Rattle.disk_journal.specs.Stands.{disk_of}
use Rattle.party_threads.specs.serial_depot.declared.depot.SerialDepot.{SerialDepot}
use Rattle.depot_rows.specs.table_changes.Changed.{rows_of}
use Rattle.p4_server.proofs.FaultPlaces.{stand_left}
use Rattle.replica_turns.specs.Master.{IsMaster}
use Rattle.p4_server.proofs.Loadings.{load_of, loads_run, loads_unloaded, loads_unopened, unloaded_of}
use Rattle.p4_server.proofs.Openings.{opened_of, unopened_of}
use Rattle.p4_server.proofs.Scheduled.{begins, can_take}
use Rattle.p4_server.proofs.Writtens.{opened_master}
use Rattle.p4_server.proofs.load.load_files.Goals as goal

pub load_depot-run-requires-clause-can : goal.load_depot-run-requires-clause-can
load_depot-run-requires-clause-can g c =
    let opens = c.in-Ok.ensures in
    can_take g.D.Disk.says c.args.archive c.in-Ok.opened c.new-depot.result c.new-depot.ensures opens.«open» opens.archive_synced opens.within

pub load_depot-run-requires-clause-began : goal.load_depot-run-requires-clause-began
load_depot-run-requires-clause-began g c = λ past start all master. (all, master)

pub returns-in-Err-clause-loads : goal.returns-in-Err-clause-loads
returns-in-Err-clause-loads g c =
    let opens = c.in-Err.ensures in
    let end = c.end_unopened.ensures in
    loads_unopened _ _ (g.C.Clock.says.may_give c.args.clock.now) _ _ c.args.seed c.args.count (unopened_of _ _ _ _ _ _ end.journal end.archive c.in-Err.found.fault end.told end.cause
    opens.journal_told opens.archive_told opens.journal_looks.no_more opens.archive_looks.no_more opens.journal_looks.any_moment opens.archive_looks.any_moment opens.unmade opens.exactly (λ j a d j_reads a_reads stand. (opens.stands j a d j_reads a_reads stand).0) opens.damaged opens.cause opens.unopened opens.unfailed)

pub returns-in-Ok-run-clause-loads : goal.returns-in-Ok-run-clause-loads
returns-in-Ok-run-clause-loads g c =
    let opens = c.in-Ok.ensures in
    let run = c.load_depot-run.ensures in
    let end = c.ended_load-ended.ensures in
    let opened = disk_of c.in-Ok.opened.journal in
    let closed = c.close-tables.ensures in
    loads_run _ _ _ _ _ c.args.seed c.args.count (load_of _ _ _ _ _ c.args.seed c.args.count
    (λ past start all. IsMaster g.D.Disk.says past start [] c.new-depot.result all) c.load_depot-run.result.depot opened (g.D.Disk.says.faults (disk_of c.new-depot.result.journal)) (g.D.Disk.says.faults (archives.disk_of c.new-depot.result.archive)) (rows_of c.close-tables.result.tables)
    c.in-Ok-run.run'.order c.in-Ok-run.run'.commands c.in-Ok-run.run'.end (end.journal ∙ closed.journal) (end.archive ∙ closed.archive) (ap rows_of closed.tables) end.order (rw c.in-Ok-run.is at run.commands) (rw c.in-Ok-run.is at run.read)
    (opened_of _ _ _ c.in-Ok.opened opens.exactly opens.whole opens.journal_looks opens.journal_synced)
    (λ d start. rw c.in-Ok-run.is at (run.loaded (g.D.Disk.says.moment opened) d (begins g.D.Disk.says c.args.journal c.args.archive c.in-Ok.opened c.new-depot.result c.new-depot.ensures opens.«open» opens.journal_synced opens.archive_synced g.met.D.Disk.reads_an_image g.met.D.Disk.only_now g.met.D.Disk.reads_one opens.held
    (λ j a d j_reads a_reads stand. (opens.stands j a d j_reads a_reads stand).1) d start)))
    (λ d start past w. opened_master g.D.Disk.says c.args.journal c.args.archive c.in-Ok.opened opens.«open».0 opens.«open».1 opens.journal_synced opens.archive_synced g.met.D.Disk.reads_an_image opens.held d start c.new-depot.result c.new-depot.ensures
    (begins g.D.Disk.says c.args.journal c.args.archive c.in-Ok.opened c.new-depot.result c.new-depot.ensures opens.«open» opens.journal_synced opens.archive_synced g.met.D.Disk.reads_an_image g.met.D.Disk.only_now g.met.D.Disk.reads_one opens.held
    (λ j a d j_reads a_reads stand. (opens.stands j a d j_reads a_reads stand).1) d start) past w)
    (rw c.new-depot.ensures opens.cause.journal_never_falls) (rw c.new-depot.ensures opens.cause.archive_never_falls) (rw c.in-Ok-run.is at run.faults) end.told) end.no_parties
    (λ none.
    let began = opens.unfailed (λ no. no) in
    let stood = stand_left g.D.Disk.says.faults (end.journal ∙ closed.journal) (end.archive ∙ closed.archive) end.order
    (ap (λ (depot : SerialDepot g.row.D.Denot). g.D.Disk.says.faults (disk_of depot.journal)) c.new-depot.ensures ∙ began.0, ap (λ (depot : SerialDepot g.row.D.Denot). g.D.Disk.says.faults (archives.disk_of depot.archive)) c.new-depot.ensures ∙ began.1)
    (rw c.in-Ok-run.is at run.stand) none in
    record { journal = stood.0; archive = stood.1 })

pub returns-in-Err-run-clause-loads : goal.returns-in-Err-run-clause-loads
returns-in-Err-run-clause-loads g c =
    let opens = c.in-Ok.ensures in
    let end = c.end_alone.ensures in
    let opened = disk_of c.in-Ok.opened.journal in
    let closed = c.close-tables.ensures in
    loads_unloaded _ _ (g.C.Clock.says.may_give c.args.clock.now) _ _ c.args.seed c.args.count (unloaded_of _ _ (g.C.Clock.says.may_give c.args.clock.now) _ _ c.args.seed c.args.count c.new-depot.result opened
    (end.journal ∙ (closed.journal ∙ ap (λ (depot : SerialDepot g.row.D.Denot). disk_of depot.journal) (rw c.in-Err-run.is at c.load_depot-run.ensures.unrun)))
    (end.archive ∙ (closed.archive ∙ ap (λ (depot : SerialDepot g.row.D.Denot). archives.disk_of depot.archive) (rw c.in-Err-run.is at c.load_depot-run.ensures.unrun)))
    (opened_of _ _ _ c.in-Ok.opened opens.exactly opens.whole opens.journal_looks opens.journal_synced) end.told end.cause
    (begins g.D.Disk.says c.args.journal c.args.archive c.in-Ok.opened c.new-depot.result c.new-depot.ensures opens.«open» opens.journal_synced opens.archive_synced g.met.D.Disk.reads_an_image g.met.D.Disk.only_now g.met.D.Disk.reads_one opens.held
    (λ j a d j_reads a_reads stand. (opens.stands j a d j_reads a_reads stand).1))
    (λ d start. opened_master g.D.Disk.says c.args.journal c.args.archive c.in-Ok.opened opens.«open».0 opens.«open».1 opens.journal_synced opens.archive_synced g.met.D.Disk.reads_an_image opens.held d start c.new-depot.result c.new-depot.ensures))
