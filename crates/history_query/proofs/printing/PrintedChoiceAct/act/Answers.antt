use Rattle.std.proofs.Common.{◌≡◌, Bool, [], ◌∷◌, true, false, sym, subst, ◌∙◌}
use Rattle.std.specs.Prelude.{not}
use Rattle.depot_rows.specs.depot_path.Path.{printed}
use Rattle.depot_rows.specs.protect_table.Rights.{may}
use Rattle.depot_rows.specs.table_changes.Changed.{rows_of}
use Rattle.depot_rows.specs.depot_model.Asking.{may_at}
use Rattle.depot_rows.specs.depot_model.Choice.{chosen}
use Rattle.depot_rows.specs.depot_model.Step.{refuse_if, refuses, unless}
use Rattle.depot_rows.specs.depot_model.Steps.History.{print_chosen}
use Rattle.depot_rows.specs.depot_model.declared.refusal.Refusal.TheVariants.{Denied}
use Rattle.reply_rows.specs.Made.{IsMade}
use Rattle.reply_rows.specs.declared.step.Step.{Step}
use Rattle.reply_rows.proofs.Bare.{refuses_made}
use Rattle.history_query.proofs.Printed.{printed_made}
use Rattle.history_query.proofs.printing.PrintedChoiceAct.act.Goals as goal

pub returns-then-not-may : goal.returns-then-not-may
returns-then-not-may c = λ d e argument reads choice.
    let caller = c.args._caller.now in
    let path = c.args.path.now in
    let all = rows_of c.args.tables.now in
    let model = print_chosen d caller argument path in
    let denied : may_at d caller path 2 ≡ false =
    sym (c.may.ensures ∙ (λ i. may (reads.asked.protects i) (reads.asked.who i) path 2)) ∙ c.if-not-may.true in
    let step : IsMade all d e (refuses (Denied (printed path) 2)) c.in_ok-step.step =
    subst (λ (x : Step). IsMade all d e (refuses (Denied (printed path) 2)) x) (sym c.in_ok-step.ensures) (refuses_made all d e (Denied (printed path) 2)) in
    subst (λ (b : Bool). IsMade all d e (unless (refuse_if (not b) (Denied (printed path) 2) ∷ []) model) c.in_ok-step.step) (sym denied) step

pub returns : goal.returns
returns c = λ d e argument reads choice.
    let caller = c.args._caller.now in
    let path = c.args.path.now in
    let all = rows_of c.args.tables.now in
    let model = print_chosen d caller argument path in
    let allowed : may_at d caller path 2 ≡ true =
    sym (c.may.ensures ∙ (λ i. may (reads.asked.protects i) (reads.asked.who i) path 2)) ∙ c.if-not-may.false in
    let made = printed_made all d e path (chosen d caller path argument.spec.wanted) _ choice.row_is choice.stored in
    let step : IsMade all d e model c.in_ok-step-2.step = subst (λ (x : Step). IsMade all d e model x) (sym c.in_ok-step-2.ensures) made in
    subst (λ (b : Bool). IsMade all d e (unless (refuse_if (not b) (Denied (printed path) 2) ∷ []) model) c.in_ok-step-2.step) (sym allowed) step
