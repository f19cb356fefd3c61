use Rattle.depot_rows.specs.table_changes.Changed.{AllFitIn}
use Rattle.depot_rows.specs.table_changes.Drafts.{rows_of_draft}
use Rattle.replica_pull.proofs.Misfits.{misfit_at}
use Rattle.replica_chain.proofs.feed.make_changes.Goals as goal

pub returns-then-fitting-changes-clause-bad : goal.returns-then-fitting-changes-clause-bad
returns-then-fitting-changes-clause-bad c =
    let made = c.in_ok-fitting in
    misfit_at (AllFitIn (rows_of_draft c.args.draft.now)) c.args.changes.now c.split_at.result.1.now made.fitting c.args.end c.in_ok-place.place c.split_at.ensures.back c.if-fitting-changes.true made.ensures.fit (made.ensures.next c.if-fitting-changes.true) c.in_ok-place.ensures
