use Rattle.std.proofs.Common.{◌≡◌, Bool, [], ◌∷◌, refl, sym, subst, ◌∙◌}
use Rattle.std.specs.Prelude.{not}
use Rattle.depot_rows.specs.depot_path.Path.{printed}
use Rattle.depot_rows.specs.table_changes.Changed.{rows_of}
use Rattle.depot_rows.specs.protect_table.Rights.{may}
use Rattle.depot_rows.specs.depot_model.declared.refusal.Refusal.TheVariants.{Denied}
use Rattle.depot_rows.specs.depot_model.Asking.{may_at}
use Rattle.depot_rows.specs.depot_model.Choice.{chosen}
use Rattle.depot_rows.specs.depot_model.Step.{refuse_if, unless}
use Rattle.depot_rows.specs.depot_model.Steps.Syncing.{sync_to}
use Rattle.reply_rows.specs.Made.{IsMade}
use Rattle.reply_rows.proofs.Joined.{made_refusal}
use Rattle.have_sync.proofs.syncing.SyncingWalkActShownFiles.act.Goals as goal

pub returns-in_ok-step-clause-step : goal.returns-in_ok-step-clause-step
returns-in_ok-step-clause-step c = λ set d e stands.
    let reads = stands.0 in
    let own = c.args.self.now in
    let caller = own.caller.now in
    let path = c.args.path.now in
    let argument = c.args.argument.now in
    let rows = rows_of c.args.tables.now in
    let asked = reads.shown.asked in
    let may_is : c.may-may.result ≡ may_at d caller path 2 = c.may-may.ensures ∙ (λ i. may (asked.protects i) (asked.who i) path 2) in
    let whole = sync_to own.again d caller argument path (chosen d caller path argument.spec.wanted) in
    subst (λ (m : Bool). IsMade rows d e (unless (refuse_if (not m) (Denied (printed path) 2) ∷ []) whole) c.in_ok-step.step) (sym c.if-may.true ∙ may_is)
    (c.in_ok-step.ensures.step d e reads stands.1)

pub returns-in_ok-step-2-clause-step : goal.returns-in_ok-step-2-clause-step
returns-in_ok-step-2-clause-step c = λ set d e stands.
    let reads = stands.0 in
    let own = c.args.self.now in
    let caller = own.caller.now in
    let path = c.args.path.now in
    let argument = c.args.argument.now in
    let rows = rows_of c.args.tables.now in
    let asked = reads.shown.asked in
    let may_is : c.may-may.result ≡ may_at d caller path 2 = c.may-may.ensures ∙ (λ i. may (asked.protects i) (asked.who i) path 2) in
    let whole = sync_to own.again d caller argument path (chosen d caller path argument.spec.wanted) in
    subst (λ (m : Bool). IsMade rows d e (unless (refuse_if (not m) (Denied (printed path) 2) ∷ []) whole) c.in_ok-step-2.step) (sym c.if-may.false ∙ may_is)
    (made_refusal rows d e (Denied (printed path) 2) c.in_ok-row.row c.in_ok-step-2.step c.in_ok-row.ensures c.in_ok-step-2.ensures)

pub returns-in_ok-step-clause-comes : goal.returns-in_ok-step-clause-comes
returns-in_ok-step-clause-comes c = λ set d e stands. (stands.0, c.in_ok-step.ensures.places (rows_of c.args.tables.now) stands.1)

pub returns-in_ok-step-2-clause-comes : goal.returns-in_ok-step-2-clause-comes
returns-in_ok-step-2-clause-comes c = λ set d e stands. stands

pub returns-in_ok-step-clause-same : goal.returns-in_ok-step-clause-same
returns-in_ok-step-clause-same c = refl

pub returns-in_ok-step-2-clause-same : goal.returns-in_ok-step-2-clause-same
returns-in_ok-step-2-clause-same c = refl
