use Rattle.std.proofs.Common.{ℕ, Option, sym, ap, subst, ◌∙◌}
use Rattle.std.specs.Prelude.{option_map}
use Rattle.depot_rows.specs.depot_path.Path.{is_path}
use Rattle.depot_rows.specs.table_changes.Changed.{rows_of}
use Rattle.depot_rows.specs.depot_model.Step.{Step as ModelStep, tells}
use Rattle.depot_rows.specs.depot_model.Steps.Listing.{Numbered, chosen_revision}
use Rattle.reply_rows.specs.Made.{IsMade, told}
use Rattle.reply_rows.specs.declared.step.Step.{Step}
use Rattle.reply_rows.proofs.Bare.{tells_made}
use Rattle.history_query.specs.Logging.{rows_logged}
use Rattle.history_query.proofs.Logged.{log_told, logs_bare, number_told}
use Rattle.history_query.proofs.logging.LoggedChoiceAct.act.Goals as goal

pub returns : goal.returns
returns c = λ d e argument reads choice.
    let caller = c.args._caller.now in
    let path = c.args.path.now in
    let all = rows_of c.args.tables.now in
    let found = chosen_revision d caller argument path in
    let bytes = c.as_bytes-bytes in
    let rows = rows_logged d caller path (option_map (λ (r : Numbered). r.number) found) in
    let number = number_told _ found choice.row_is in
    let is = c.in_ok-step.ensures d caller reads ∙ ap (λ (n : Option ℕ). told (rows_logged d caller path n)) number in
    subst (λ (m : ModelStep). IsMade all d e m c.in_ok-step.step)
    (log_told d caller path reads.choice.sound (ap is_path (sym bytes.ensures.value) ∙ bytes.ensures.path) found)
    (subst (λ (x : Step). IsMade all d e (tells rows) x) (sym is) (tells_made all d e rows (logs_bare d caller path (option_map (λ (r : Numbered). r.number) found))))
