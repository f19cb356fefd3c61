use Rattle.std.proofs.Common.{◌≡◌, Some, None, ◌∙◌, subst}
use Rattle.depot_rows.specs.table_changes.Changed.{rows_of}
use Rattle.depot_rows.specs.depot_model.Step.{Step as ModelStep}
use Rattle.step_stores.specs.Stored.{IsStoring}
use Rattle.submit_core.proofs.PendingRows.{own_change, own_submitted}
use Rattle.submit_core.proofs.Stepping.{change_refused}
use Rattle.submit_core.proofs.submitting.submit_change.Goals as goal

pub returns-in_ok-step-in-Some : goal.returns-in_ok-step-in-Some
returns-in_ok-step-in-Some c = λ d sound unshelved asked counter domain resolve working change rev.
    let there : Some c.in-Some.row ≡ c.in_ok-refusal.refusal = cc in
    change_refused (rows_of c.args.tables.now) c.args.tables.now.archive_end d c.args.request.now c.args.change c.in-Some.row c.in_ok-step-in-Some.step
    (there ∙ c.in_ok-refusal.ensures d change) c.in_ok-step-in-Some.ensures

pub returns-in_ok-step-in-None : goal.returns-in_ok-step-in-None
returns-in_ok-step-in-None c = λ d sound unshelved asked counter domain resolve working change rev.
    let request = c.args.request.now in
    let n = c.args.change in
    let none : None ≡ c.in_ok-refusal.refusal = cc in
    let own = own_change d request n (none ∙ c.in_ok-refusal.ensures d change) in
    subst (λ (m : ModelStep). IsStoring (rows_of c.args.tables.now) c.args.tables.now.archive_end d m c.in_ok-step-in-None.step)
    (own_submitted d request n own.change own.is (none ∙ c.in_ok-refusal.ensures d change))
    (c.in_ok-step-in-None.ensures d own.change
    (record { sound = sound; counters = counter; forms = domain; resolves = resolve; workings = working; revisions = rev }) asked change unshelved own.is own.client)
