use Rattle.std.proofs.Common.{◌≡◌, Bool, [], ◌∷◌, refl, sym, subst, ◌∙◌}
use Rattle.depot_rows.specs.db_records.declared.table.TableId.TheVariants as tables
use Rattle.std.specs.Prelude.{not}
use Rattle.depot_rows.specs.depot_path.Path.{printed}
use Rattle.depot_rows.specs.table_changes.Changed.{rows_of}
use Rattle.depot_rows.specs.protect_table.Rights.{may}
use Rattle.depot_rows.specs.depot_model.declared.refusal.Refusal.TheVariants.{Denied}
use Rattle.depot_rows.specs.depot_model.Asking.{may_at}
use Rattle.depot_rows.specs.depot_model.Latest.{labelled}
use Rattle.depot_rows.specs.depot_model.Step.{refuse_if, unless}
use Rattle.depot_rows.specs.depot_model.Steps.Tagging.{tag_to}
use Rattle.reply_rows.specs.Made.{IsMade}
use Rattle.reply_rows.proofs.Joined.{made_refusal}
use Rattle.label_ops.specs.Tagged.{asked, rev_by}
use Rattle.label_ops.proofs.taking.TakingFilesWalkActShownFiles.act.Goals as goal

pub returns-in_ok-step-clause-step : goal.returns-in_ok-step-clause-step
returns-in_ok-step-clause-step c = λ set d e stands.
    let own = c.args.self.now.taking in
    let caller = own.caller.now in
    let label = own.label.now in
    let path = c.args.path.now in
    let rows = rows_of c.args.tables.now in
    let asks = stands.0.asked in
    let may_is : c.may-may.result ≡ may_at d caller path 3 = c.may-may.ensures ∙ (λ i. may (asks.protects i) (asks.who i) path 3) in
    let whole = tag_to label path (labelled d label path) (rev_by own.labelling d caller label (asked own.have c.args.argument.now.spec.wanted) path) in
    subst (λ (m : Bool). IsMade rows d e (unless (refuse_if (not m) (Denied (printed path) 3) ∷ []) whole) c.in_ok-step.step) (sym c.if-may.true ∙ may_is)
    (c.in_ok-step.ensures.step d e stands.0 stands.1)

pub returns-in_ok-step-2-clause-step : goal.returns-in_ok-step-2-clause-step
returns-in_ok-step-2-clause-step c = λ set d e stands.
    let own = c.args.self.now.taking in
    let caller = own.caller.now in
    let label = own.label.now in
    let path = c.args.path.now in
    let rows = rows_of c.args.tables.now in
    let asks = stands.0.asked in
    let may_is : c.may-may.result ≡ may_at d caller path 3 = c.may-may.ensures ∙ (λ i. may (asks.protects i) (asks.who i) path 3) in
    let whole = tag_to label path (labelled d label path) (rev_by own.labelling d caller label (asked own.have c.args.argument.now.spec.wanted) path) in
    subst (λ (m : Bool). IsMade rows d e (unless (refuse_if (not m) (Denied (printed path) 3) ∷ []) whole) c.in_ok-step-2.step) (sym c.if-may.false ∙ may_is)
    (made_refusal rows d e (Denied (printed path) 3) c.in_ok-row.row c.in_ok-step-2.step c.in_ok-row.ensures c.in_ok-step-2.ensures)

pub returns-in_ok-step-clause-comes : goal.returns-in_ok-step-clause-comes
returns-in_ok-step-clause-comes c = λ set d e stands. (stands.0, c.in_ok-step.ensures.heads (rows_of c.args.tables.now tables.Rev) stands.1)

pub returns-in_ok-step-2-clause-comes : goal.returns-in_ok-step-2-clause-comes
returns-in_ok-step-2-clause-comes c = λ set d e stands. stands

pub returns-in_ok-step-clause-same : goal.returns-in_ok-step-clause-same
returns-in_ok-step-clause-same c = refl

pub returns-in_ok-step-2-clause-same : goal.returns-in_ok-step-2-clause-same
returns-in_ok-step-2-clause-same c = refl
