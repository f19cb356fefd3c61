use Rattle.std.proofs.Common.{refl}
use Rattle.depot_rows.specs.table_changes.Changed.{rows_of}
use Rattle.depot_rows.specs.depot_model.Commands.{step}
use Rattle.depot_rows.specs.depot_model.Step.{after}
use Rattle.depot_commit.specs.Committing.{IsOutcomeOf}
use Rattle.depot_commit.proofs.Differences.{no_changes}
use Rattle.depot_commit.proofs.Growing.{stored_same}
use Rattle.serial_depot.proofs.Quiet.{none_read}
use Rattle.depot_commit.proofs.Laws.{formed_of}
use Rattle.depot_commit.proofs.Outcomes.{has_needed}
use Rattle.depot_commit.proofs.Stored.{on_err}
use Rattle.serial_depot.proofs.depot.SerialDepot.take_request.Goals as goal

pub returns-clause-ran : goal.returns-clause-ran
returns-clause-ran g c = λ since start places h proper.
    let rows = rows_of c.args.self.now.tables in
    let request = c.args.request.now in
    c.in_ok-answer.ensures.ran since start places h proper
    (λ d stand. c.in_ok-outcome.ensures.outcome d stand.sound (formed_of request proper) (has_needed rows d request stand)) tt

pub returns-clause-answers : goal.returns-clause-answers
returns-clause-answers g c = λ since start places h proper.
    let rows = rows_of c.args.self.now.tables in
    let request = c.args.request.now in
    c.in_ok-answer.ensures.answers since start places h
    (λ d stand. c.in_ok-outcome.ensures.outcome d stand.sound (formed_of request proper) (has_needed rows d request stand))

pub returns-clause-no_write : goal.returns-clause-no_write
returns-clause-no_write g c = λ d stand proper same.
    let rows = rows_of c.args.self.now.tables in
    let request = c.args.request.now in
    let is = c.in_ok-outcome.ensures.outcome d stand.sound (formed_of request proper) (has_needed rows d request stand) in
    c.place_outcome.ensures.no_write (no_changes rows d (after d (step d request).deeds) c.in_ok-outcome.outcome.changes stand same is.changes)

pub returns-clause-no_call : goal.returns-clause-no_call
returns-clause-no_call g c = λ d stand proper same none.
    let rows = rows_of c.args.self.now.tables in
    let request = c.args.request.now in
    let is = c.in_ok-outcome.ensures.outcome d stand.sound (formed_of request proper) (has_needed rows d request stand) in
    c.place_outcome.ensures.no_call (no_changes rows d (after d (step d request).deeds) c.in_ok-outcome.outcome.changes stand same is.changes)
    (none_read rows d c.in_ok-outcome.outcome.reads (step d request).rows is.reads none)

pub returns-clause-grows : goal.returns-clause-grows
returns-clause-grows g c = λ proper.
    let rows = rows_of c.args.self.now.tables in
    let request = c.args.request.now in
    let is : IsOutcomeOf rows c.args.self.now.tables.archive_end request c.in_ok-outcome.outcome =
    λ d stand. c.in_ok-outcome.ensures.outcome d stand.sound (formed_of request proper) (has_needed rows d request stand) in
    record { outcome = c.in_ok-outcome.outcome; is = is; rows = c.in_ok-answer.ensures.rows tt; groups = λ d all stand has. c.in_ok-answer.ensures.grows d all stand proper is has }

pub returns-clause-only : goal.returns-clause-only
returns-clause-only g c = λ whole. c.in_ok-answer.ensures.caused.only whole

pub returns-clause-cause : goal.returns-clause-cause
returns-clause-cause g c = λ failed. c.in_ok-answer.ensures.caused.cause failed

-- ---- no memory was left for the evaluation

pub returns-in_err-outcome-clause-no_memory : goal.returns-in_err-outcome-clause-no_memory
returns-in_err-outcome-clause-no_memory g c = on_err c.from_residual.result _ (record { journal = refl; archive = refl })

pub returns-in_err-outcome-clause-same : goal.returns-in_err-outcome-clause-same
returns-in_err-outcome-clause-same g c = on_err c.from_residual.result _ (refl, refl)

pub returns-in_err-outcome-clause-stored : goal.returns-in_err-outcome-clause-stored
returns-in_err-outcome-clause-stored g c = stored_same g.D.Disk.says c.args.self.now.archive

-- ---- no memory was left behind the evaluation

pub returns-in_err-answer-clause-same : goal.returns-in_err-answer-clause-same
returns-in_err-answer-clause-same g c = on_err c.from_residual-in_err-answer.result _ (c.in_err-answer.ensures.unplaced.tables, c.in_err-answer.ensures.unplaced.journal)

pub returns-in_err-answer-clause-nothing : goal.returns-in_err-answer-clause-nothing
returns-in_err-answer-clause-nothing g c = λ since start places h. on_err c.from_residual-in_err-answer.result _ (c.in_err-answer.ensures.unplaced.ran since start places h)

pub returns-in_err-answer-clause-no_memory : goal.returns-in_err-answer-clause-no_memory
returns-in_err-answer-clause-no_memory g c = on_err c.from_residual-in_err-answer.result _ c.in_err-answer.ensures.unplaced.stood

pub returns-in_err-answer-clause-no_write : goal.returns-in_err-answer-clause-no_write
returns-in_err-answer-clause-no_write g c = λ d stand proper same.
    let rows = rows_of c.args.self.now.tables in
    let request = c.args.request.now in
    let is = c.in_ok-outcome.ensures.outcome d stand.sound (formed_of request proper) (has_needed rows d request stand) in
    c.place_outcome.ensures.no_write (no_changes rows d (after d (step d request).deeds) c.in_ok-outcome.outcome.changes stand same is.changes)

pub returns-in_err-answer-clause-no_call : goal.returns-in_err-answer-clause-no_call
returns-in_err-answer-clause-no_call g c = λ d stand proper same none.
    let rows = rows_of c.args.self.now.tables in
    let request = c.args.request.now in
    let is = c.in_ok-outcome.ensures.outcome d stand.sound (formed_of request proper) (has_needed rows d request stand) in
    c.place_outcome.ensures.no_call (no_changes rows d (after d (step d request).deeds) c.in_ok-outcome.outcome.changes stand same is.changes)
    (none_read rows d c.in_ok-outcome.outcome.reads (step d request).rows is.reads none)
