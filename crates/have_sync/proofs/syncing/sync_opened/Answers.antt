use Rattle.std.proofs.Common.{[], sym, subst, ◌∙◌}
use Rattle.depot_rows.specs.table_changes.Changed.{rows_of}
use Rattle.depot_rows.specs.depot_model.Step.{Step as ModelStep, nothing}
use Rattle.depot_rows.specs.depot_model.Steps.Syncing.{is_owed}
use Rattle.reply_rows.specs.Made.{IsMade}
use Rattle.reply_rows.specs.declared.step.Step.{Step}
use Rattle.reply_rows.proofs.Bare.{tells_made}
use Rattle.have_sync.proofs.Owed.{owed_read}
use Rattle.have_sync.proofs.Synced.{behind, is_owing, not_behind, of_base}
use Rattle.have_sync.proofs.syncing.sync_opened.Goals as goal

pub returns-then-current : goal.returns-then-current
returns-then-current c = λ d e o reads has is.
    let caller = c.args.caller.now in
    let path = c.args.path.now in
    let rev = c.args.found.rev in
    let rows = rows_of c.args.tables.now in
    subst (λ (m : ModelStep). IsMade rows d e m c.new-nothing.result)
    (not_behind d caller path rev c.args.base (is_owed d caller path rev) c.if-current.true ∙ of_base d caller path rev o c.args.base is)
    (subst (λ (s : Step). IsMade rows d e nothing s) (sym c.new-nothing.ensures) (tells_made rows d e [] tt))

pub returns-then-owed : goal.returns-then-owed
returns-then-owed c = λ d e o reads has is.
    let caller = c.args.caller.now in
    let path = c.args.path.now in
    let rev = c.args.found.rev in
    let rows = rows_of c.args.tables.now in
    let owed_is = c.reaches-owed.ensures ∙ owed_read d caller path rev _ (c.in_ok-row.ensures d reads.resolve) in
    subst (λ (m : ModelStep). IsMade rows d e m c.new-waits.result)
    (is_owing d caller path rev c.args.base (is_owed d caller path rev) (sym owed_is ∙ c.if-owed.true) ∙ of_base d caller path rev o c.args.base is)
    (subst (λ (s : Step). IsMade rows d e nothing s) (sym c.new-waits.ensures) (tells_made rows d e [] tt))

pub returns-in_ok-step : goal.returns-in_ok-step
returns-in_ok-step c = λ d e o reads has is.
    let caller = c.args.caller.now in
    let path = c.args.path.now in
    let rev = c.args.found.rev in
    let rows = rows_of c.args.tables.now in
    let owed_is = c.reaches-owed.ensures ∙ owed_read d caller path rev _ (c.in_ok-row.ensures d reads.resolve) in
    subst (λ (m : ModelStep). IsMade rows d e m c.in_ok-step.step)
    (behind d caller path rev c.args.base (is_owed d caller path rev) c.if-current.false (sym owed_is ∙ c.if-owed.false)
    ∙ of_base d caller path rev o c.args.base is)
    (c.in_ok-step.ensures rows d e reads.shown.asked has)
