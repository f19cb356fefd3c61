use Rattle.std.proofs.Common.{◌∙◌, ap, refl, Err}
use Rattle.archive_file.specs.Archive as archives
use Rattle.disk_journal.specs.Stands.{disk_of}
use Rattle.party_threads.specs.serial_depot.declared.depot.SerialDepot.{SerialDepot}
use Rattle.p4_server.specs.Parties.{parties_of}
use Rattle.program_words.specs.Words.{words_of}
use Rattle.p4_server.proofs.FaultPlaces.{stand_left}
use Rattle.p4_server.proofs.Openings.{opened_of, unopened_of}
use Rattle.p4_server.proofs.Promises.{parties_run, parties_shut, parties_unopened, whole_told}
use Rattle.p4_server.proofs.Ran.{began_from}
use Rattle.p4_server.proofs.Scheduled.{begins, can_take, run_of, shut_of, why_unrun}
use Rattle.p4_server.proofs.Writtens.{opened_master}
use Rattle.p4_server.proofs.serve.serve.Goals as goal

pub serve_parties-depot-requires-clause-can : goal.serve_parties-depot-requires-clause-can
serve_parties-depot-requires-clause-can g c =
    let opens = c.in-Ok.ensures in
    λ κs bounds. can_take g.D.Disk.says c.args.archive c.in-Ok.opened c.new-depot.result c.new-depot.ensures opens.«open» opens.archive_synced opens.within

pub returns-in-Err-clause-serves : goal.returns-in-Err-clause-serves
returns-in-Err-clause-serves g c =
    let opens = c.in-Err.ensures in
    let end = c.end_unopened.ensures in
    parties_unopened _ _ _ _ _ _ (words_of c.args.names.now) refl (unopened_of _ _ _ _ _ _ end.journal end.archive c.in-Err.found.fault end.told end.cause
    opens.journal_told opens.archive_told opens.journal_looks.no_more opens.archive_looks.no_more opens.journal_looks.any_moment opens.archive_looks.any_moment opens.unmade opens.exactly (λ j a d j_reads a_reads stand. (opens.stands j a d j_reads a_reads stand).0) opens.damaged opens.cause opens.unopened opens.unfailed)

pub returns-in-Ok-run-clause-serves : goal.returns-in-Ok-run-clause-serves
returns-in-Ok-run-clause-serves g c =
    let opens = c.in-Ok.ensures in
    let served = c.serve_parties-depot.ensures in
    let end = c.told.ensures in
    let party = c.in-Ok-run.run' in
    let depot = c.serve_parties-depot.result.depot in
    -- what is promised of a disk that may go to another thread, on this one
    let disk = g.met.D.Disk g.world.𝓛 g.world.𝓜 g.world.𝓡 ((λ s x. x), (λ x. x), (λ x. x), λ x. x) in
    let opened = disk_of c.in-Ok.opened.journal in
    parties_run _ _ _ _ _ _ (words_of c.args.names.now) served.only (run_of _ _ _ _ _ _ (words_of c.args.names.now)
    c.new-depot.result depot opened party.order party.lost (parties_of party) party.sources.items
    (end.journal ∙ c.close-journal.ensures.journal) (end.archive ∙ c.close-journal.ensures.archive) (opened_of _ _ _ c.in-Ok.opened opens.exactly opens.whole opens.journal_looks opens.journal_synced) end.order (rw c.in-Ok-run.is at served.ends)
    (λ d start.
    let ran = begins g.D.Disk.says c.args.journal c.args.archive c.in-Ok.opened c.new-depot.result c.new-depot.ensures opens.«open» opens.journal_synced opens.archive_synced disk.reads_an_image disk.only_now disk.reads_one opens.held
    (λ j a d j_reads a_reads stand. (opens.stands j a d j_reads a_reads stand).1) d start in
    began_from _ _ _ _ _ _ _ _ _ _ _ _ _ _ _ _ _ _ (opened_master g.D.Disk.says c.args.journal c.args.archive c.in-Ok.opened
    opens.«open».0 opens.«open».1 opens.journal_synced opens.archive_synced disk.reads_an_image opens.held d start c.new-depot.result c.new-depot.ensures ran) (rw c.in-Ok-run.is at (served.run (g.D.Disk.says.moment opened) d ran)))
    (rw c.new-depot.ensures opens.cause.journal_never_falls) (rw c.new-depot.ensures opens.cause.archive_never_falls) (rw c.in-Ok-run.is at served.faults) (rw c.in-Ok-run.is at served.lost) end.told)
    (λ is.
    let whole = whole_told _ _ _ _ _ _ _ _ end.told is in
    let began = opens.unfailed (λ no. no) in
    let stood = stand_left g.D.Disk.says.faults (end.journal ∙ c.close-journal.ensures.journal) (end.archive ∙ c.close-journal.ensures.archive) end.order
    (ap (λ (depot : SerialDepot g.row.D.Denot). g.D.Disk.says.faults (disk_of depot.journal)) c.new-depot.ensures ∙ began.0, ap (λ (depot : SerialDepot g.row.D.Denot). g.D.Disk.says.faults (archives.disk_of depot.archive)) c.new-depot.ensures ∙ began.1)
    ((rw c.in-Ok-run.is at served.stand) whole.0) whole.1 in
    record { journal = stood.0; archive = stood.1 })

pub returns-in-Err-run-clause-serves : goal.returns-in-Err-run-clause-serves
returns-in-Err-run-clause-serves g c =
    let opens = c.in-Ok.ensures in
    let served = c.serve_parties-depot.ensures in
    let end = c.end_alone.ensures in
    let opened = disk_of c.in-Ok.opened.journal in
    -- what is promised of a disk that may go to another thread, on this one
    let disk = g.met.D.Disk g.world.𝓛 g.world.𝓜 g.world.𝓡 ((λ s x. x), (λ x. x), (λ x. x), λ x. x) in
    let same = served.unrun c.in-Err-run.why c.in-Err-run.is in
    parties_shut _ _ _ _ _ _ (words_of c.args.names.now) served.only (shut_of _ _ _ _ _ _ (words_of c.args.names.now) c.new-depot.result opened
    (end.journal ∙ (c.close-journal.ensures.journal ∙ ap (λ (depot : SerialDepot g.row.D.Denot). disk_of depot.journal) same))
    (end.archive ∙ (c.close-journal.ensures.archive ∙ ap (λ (depot : SerialDepot g.row.D.Denot). archives.disk_of depot.archive) same))
    (opened_of _ _ _ c.in-Ok.opened opens.exactly opens.whole opens.journal_looks opens.journal_synced) end.told
    (why_unrun _ _ _ c.in-Err-run.why (end.cause ∙ c.cause_of_unrun.ensures) (λ e. served.doors (c.in-Err-run.is ∙ ap Err e)))
    (begins g.D.Disk.says c.args.journal c.args.archive c.in-Ok.opened c.new-depot.result c.new-depot.ensures opens.«open» opens.journal_synced opens.archive_synced disk.reads_an_image disk.only_now disk.reads_one opens.held
    (λ j a d j_reads a_reads stand. (opens.stands j a d j_reads a_reads stand).1))
    (λ d start. opened_master g.D.Disk.says c.args.journal c.args.archive c.in-Ok.opened opens.«open».0 opens.«open».1 opens.journal_synced opens.archive_synced disk.reads_an_image opens.held d start c.new-depot.result c.new-depot.ensures))
