use Rattle.std.proofs.Common.{ℕ, List, [], Option, refl, sym, ap, subst, ◌∙◌}
use Rattle.depot_rows.specs.table_changes.Changed.{rows_of}
use Rattle.depot_rows.specs.view_map.Mapping.{path_in}
use Rattle.depot_rows.specs.view_map.declared.line.ViewLine.{ViewLine}
use Rattle.depot_rows.specs.depot_model.Step.{nothing}
use Rattle.depot_rows.specs.depot_model.Steps.Placing.{place_row}
use Rattle.reply_rows.specs.declared.step.Step.{Step}
use Rattle.reply_rows.specs.Made.{IsMade}
use Rattle.reply_rows.proofs.Bare.{tells_made}
use Rattle.reply_rows.proofs.Joined.{made_row}
use Rattle.have_sync.proofs.Told.{placed_by}
use Rattle.have_sync.proofs.placing.PlacingFileAct.act.Goals as goal

pub returns-in_ok-step-in-Some : goal.returns-in_ok-step-in-Some
returns-in_ok-step-in-Some c = λ d e asked later.
    let caller = c.args.self.now.caller.now in
    let path = c.args.path.now in
    let rows = rows_of c.args._tables.now in
    let step = c.in_ok-step-in-Some.step in
    subst (λ (p : Option (List ℕ)). IsMade rows d e (placed_by path p) step)
    (sym c.in-Some.is ∙ c.in_ok-place.ensures ∙ ap (λ (v : List ViewLine). path_in v path) asked.view)
    (made_row rows d e c.in_ok-row-in-Some.row (place_row path c.in-Some.place) step c.in_ok-row-in-Some.ensures refl c.in_ok-step-in-Some.ensures)

pub returns-in-None : goal.returns-in-None
returns-in-None c = λ d e asked later.
    let caller = c.args.self.now.caller.now in
    let path = c.args.path.now in
    let rows = rows_of c.args._tables.now in
    let step = c.new-step.result in
    subst (λ (p : Option (List ℕ)). IsMade rows d e (placed_by path p) step)
    (sym c.in-None.is ∙ c.in_ok-place.ensures ∙ ap (λ (v : List ViewLine). path_in v path) asked.view)
    (subst (λ (x : Step). IsMade rows d e nothing x) (sym c.new-step.ensures) (tells_made rows d e [] tt))
