use Rattle.std.proofs.Common.{List, sym, ap, subst, ◌∙◌}
use Rattle.std.specs.Prelude.{option_map}
use Rattle.std.specs.Option.{option_copied}
use Rattle.depot_rows.specs.view_map.Mapping.{path_in}
use Rattle.depot_rows.specs.view_map.declared.line.ViewLine.{ViewLine}
use Rattle.depot_rows.specs.table_changes.Changed.{rows_of}
use Rattle.depot_rows.specs.depot_model.Asking.{view}
use Rattle.depot_rows.specs.depot_model.Choice.{chosen}
use Rattle.depot_rows.specs.depot_model.Latest.{have}
use Rattle.depot_rows.specs.depot_model.Step.{Step as ModelStep, tells}
use Rattle.depot_rows.specs.depot_model.Steps.Listing.{chosen_revision}
use Rattle.reply_rows.specs.Made.{IsMade, told}
use Rattle.reply_rows.specs.declared.step.Step.{Step}
use Rattle.reply_rows.proofs.Bare.{tells_made}
use Rattle.history_query.specs.Stating.{stats_told}
use Rattle.history_query.specs.Telling.{revision_records}
use Rattle.history_query.proofs.Stated.{stats_are, stats_bare}
use Rattle.history_query.proofs.stating.StatedChoiceAct.act.Goals as goal

pub returns : goal.returns
returns c = λ d e argument reads choice.
    let caller = c.args.caller.now in
    let path = c.args.path.now in
    let all = rows_of c.args.tables.now in
    let found = chosen_revision d caller argument path in
    let place = c.in_ok-place.ensures ∙ ap (λ (v : List ViewLine). path_in v path) reads.asked.view in
    let had = c.in_ok-have.ensures d reads.choice.has_have in
    let said = c.told_of-told.ensures d (chosen d caller path argument.spec.wanted) reads.choice choice.row_is in
    let opening = c.in_ok-opening.ensures d reads.has_working in
    let row = option_copied c.in_ok-opening.opening in
    let rows = stats_told path (path_in (view d caller.client) path) (have d caller.client path) row (option_map revision_records found) in
    let is = c.in_ok-step.ensures ∙ (λ i. told (stats_told path (place i) (had i) row (said i))) in
    subst (λ (m : ModelStep). IsMade all d e m c.in_ok-step.step) (stats_are d caller path row found opening)
    (subst (λ (x : Step). IsMade all d e (tells rows) x) (sym is) (tells_made all d e rows (stats_bare path (path_in (view d caller.client) path) (have d caller.client path) row found)))
