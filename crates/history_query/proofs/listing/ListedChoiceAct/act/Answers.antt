use Rattle.std.proofs.Common.{sym, ap, subst, ◌∙◌}
use Rattle.std.specs.Prelude.{option_map}
use Rattle.depot_rows.specs.table_changes.Changed.{rows_of}
use Rattle.depot_rows.specs.depot_model.Choice.{chosen}
use Rattle.depot_rows.specs.depot_model.Step.{Step as ModelStep, tells}
use Rattle.depot_rows.specs.depot_model.Steps.Listing.{chosen_revision}
use Rattle.reply_rows.specs.Made.{IsMade, told}
use Rattle.reply_rows.specs.declared.step.Step.{Step}
use Rattle.reply_rows.proofs.Bare.{tells_made}
use Rattle.history_query.specs.Listing.{rows_told}
use Rattle.history_query.specs.Telling.{revision_records}
use Rattle.history_query.proofs.Told.{files_bare, files_told}
use Rattle.history_query.proofs.listing.ListedChoiceAct.act.Goals as goal

pub returns : goal.returns
returns c = λ d e argument reads choice.
    let own = c.args.self.now in
    let path = c.args.path.now in
    let all = rows_of c.args.tables.now in
    let caller = c.args._caller.now in
    let found = chosen_revision d caller argument path in
    let rows = rows_told own.live path (option_map revision_records found) in
    let is = c.in_ok-step.ensures ∙ ap (λ x. told (rows_told own.live path x)) (c.told_of-told.ensures d (chosen d caller path argument.spec.wanted) reads choice.row_is) in
    subst (λ (m : ModelStep). IsMade all d e m c.in_ok-step.step) (files_told own.live path found)
    (subst (λ (x : Step). IsMade all d e (tells rows) x) (sym is) (tells_made all d e rows (files_bare own.live path found)))
