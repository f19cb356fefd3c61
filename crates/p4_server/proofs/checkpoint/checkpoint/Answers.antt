use Rattle.std.proofs.Common.{◌≡◌, Err, Ok, refl, ap, inl, subst, sym, ◌∙◌, arith}
use Rattle.std.specs.Prelude.{IsErr}
use Rattle.disk_journal.specs.Stands.{disk_of}
use Rattle.disk_journal.specs.declared.journal.Journal.{Journal}
use Rattle.outside_api.specs.Count.{HasRisen}
use Rattle.p4_server.proofs.Openings.{unopened_of}
use Rattle.p4_server.proofs.Checkpoints.{by_fault, checkpoints_in_doubt, checkpoints_taken, checkpoints_unopened, checkpoints_untaken, in_doubt_of, taken_of, untaken_of}
use Rattle.p4_server.proofs.checkpoint.checkpoint.Goals as goal

pub returns-in-Err-clause-checkpoints : goal.returns-in-Err-clause-checkpoints
returns-in-Err-clause-checkpoints g c =
    let opens = c.in-Err.ensures in
    let end = c.end_unopened.ensures in
    checkpoints_unopened _ _ _ _ _ (unopened_of _ _ _ _ _ _ end.journal end.archive c.in-Err.found.fault end.told end.cause
    opens.journal_told opens.archive_told opens.journal_looks.no_more opens.archive_looks.no_more opens.journal_looks.any_moment opens.archive_looks.any_moment opens.unmade opens.exactly (λ j a d j_reads a_reads stand. (opens.stands j a d j_reads a_reads stand).0) opens.damaged opens.cause opens.unopened opens.unfailed)

pub returns-in-Err-orders_at-clause-checkpoints : goal.returns-in-Err-orders_at-clause-checkpoints
returns-in-Err-orders_at-clause-checkpoints g c =
    let opens = c.in-Ok.ensures in
    let end = c.ended_alone.ensures in
    checkpoints_untaken _ _ _ _ _ (untaken_of _ _ _ _ _ c.in-Ok.opened opens.«open» opens.journal_synced opens.archive_synced g.met.D.Disk.reads_an_image g.met.D.Disk.only_now g.met.D.Disk.reads_one
    opens.exactly opens.whole opens.journal_looks opens.held (λ j a d j_reads a_reads stand. (opens.stands j a d j_reads a_reads stand).1)
    (end.archive ∙ c.into_disk-in-Err-orders_at.ensures) end.cause end.unrun (end.journal ∙ c.into_disk.ensures))
    (let stood = opens.unfailed (λ no. no) in
    record { journal = ap g.D.Disk.says.faults (end.journal ∙ c.into_disk.ensures) ∙ stood.0; archive = ap g.D.Disk.says.faults (end.archive ∙ c.into_disk-in-Err-orders_at.ensures) ∙ stood.1 })

pub returns-in-Ok-taken-clause-checkpoints : goal.returns-in-Ok-taken-clause-checkpoints
returns-in-Ok-taken-clause-checkpoints g c =
    let opens = c.in-Ok.ensures in
    let opening = opens.«open» in
    let taken = c.in-Ok-taken.ensures in
    let end = c.end_taken.ensures in
    checkpoints_taken _ _ _ _ _ (taken_of _ _ _ _ _ c.in-Ok.opened opening opens.journal_synced opens.archive_synced g.met.D.Disk.reads_an_image g.met.D.Disk.only_now g.met.D.Disk.reads_one
    opens.exactly opens.whole opens.journal_looks opens.held (λ j a d j_reads a_reads stand. (opens.stands j a d j_reads a_reads stand).1)
    (end.archive ∙ c.into_disk-archive.ensures) c.take_checkpoint-taken.new.journal (end.journal ∙ c.into_disk-journal.ensures)
    (λ d image of_depot. c.take_checkpoint-taken.ensures.any_moment opening.0 d image opening.1.stands of_depot)
    (record { moment = c.now.result; by_clock = c.now.ensures; order_is = end.order ∙ c.in-Ok-orders_at.ensures.whole; parties_are = end.parties; sources_are = end.sources })
    c.in-Ok-taken.begun taken.number end.line (λ d image of_depot. taken.taken opening.0 d image opening.1.stands of_depot) (λ none. taken.none (ap Ok none)) (taken.begun opening.0))
    (let stood = opens.unfailed (λ no. no) in
    record { journal = ap g.D.Disk.says.faults (end.journal ∙ c.into_disk-journal.ensures) ∙ (taken.only (λ e. cc) ∙ stood.0); archive = ap g.D.Disk.says.faults (end.archive ∙ c.into_disk-archive.ensures) ∙ stood.1 })

pub returns-in-Err-taken-clause-checkpoints : goal.returns-in-Err-taken-clause-checkpoints
returns-in-Err-taken-clause-checkpoints g c =
    let opens = c.in-Ok.ensures in
    let opening = opens.«open» in
    let taking = c.take_checkpoint-taken.ensures in
    let end = c.end_untaken.ensures in
    let journal_is = end.journal ∙ c.into_disk-journal.ensures in
    let archive_is = end.archive ∙ c.into_disk-archive.ensures in
    let at : c.take_checkpoint-taken.result ≡ Err c.in-Err-taken.fault = c.in-Err-taken.is in
    by_fault c.in-Err-taken.fault
    (λ is.
    let before = opens.cause.journal_never_falls in
    let more = taking.cause (at ∙ ap Err is) in
    let risen : HasRisen (g.D.Disk.says.faults c.args.journal) (g.D.Disk.says.faults (disk_of c.take_checkpoint-taken.new.journal)) = omega (arith, before, more) in
    checkpoints_in_doubt _ _ _ _ _ (in_doubt_of _ _ _ _ _ c.in-Ok.opened opening opens.journal_synced opens.archive_synced g.met.D.Disk.reads_an_image g.met.D.Disk.only_now g.met.D.Disk.reads_one
    opens.exactly opens.whole opens.journal_looks opens.held (λ j a d j_reads a_reads stand. (opens.stands j a d j_reads a_reads stand).1)
    archive_is c.take_checkpoint-taken.new.journal journal_is
    (λ d image of_depot. taking.any_moment opening.0 d image opening.1.stands of_depot) g.met.D.Disk.counts_now
    (record { moment = c.now.result; by_clock = c.now.ensures; order_is = end.order is ∙ c.in-Ok-orders_at.ensures.failed; parties_are = end.parties; sources_are = end.sources })
    (end.cause is) (inl (subst (λ disk. HasRisen (g.D.Disk.says.faults c.args.journal) (g.D.Disk.says.faults disk)) (sym journal_is) risen)) (end.line is)
    (λ d older can. taking.begins opening.0 d older can (subst IsErr (sym at) refl))))
    (λ is.
    checkpoints_untaken _ _ _ _ _ (untaken_of _ _ _ _ _ c.in-Ok.opened opening opens.journal_synced opens.archive_synced g.met.D.Disk.reads_an_image g.met.D.Disk.only_now g.met.D.Disk.reads_one
    opens.exactly opens.whole opens.journal_looks opens.held (λ j a d j_reads a_reads stand. (opens.stands j a d j_reads a_reads stand).1)
    archive_is (end.memory is) (end.unrun is)
    (journal_is ∙ ap (λ (journal : Journal g.row.D.Denot). disk_of journal) (taking.untouched (at ∙ ap Err is))))
    (let stood = opens.unfailed (λ no. no) in
    record {
      journal = ap g.D.Disk.says.faults (journal_is ∙ ap (λ (journal : Journal g.row.D.Denot). disk_of journal) (taking.untouched (at ∙ ap Err is))) ∙ stood.0;
      archive = ap g.D.Disk.says.faults archive_is ∙ stood.1;
    }))
