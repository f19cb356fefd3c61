use Rattle.std.proofs.Common.{Option, false, sym, ap, ◌∙◌}
use Rattle.std.specs.Option.{option_map_or}
use Rattle.std.specs.Prelude.{codes}
use Rattle.depot_rows.specs.spec_form.Form.{FormValue}
use Rattle.depot_rows.specs.depot_model.Deeds.{ShelfForm}
use Rattle.depot_rows.specs.depot_model.Latest.{spec}
use Rattle.held_changes.specs.Holding.{holds}
use Rattle.held_changes.proofs.holding.is_held_under.Goals as goal

pub returns-in-Some : goal.returns-in-Some
returns-in-Some c = λ d sound has.
    c.is_in_state.ensures
    ∙ ap (λ (form : Option FormValue). option_map_or (holds (codes "kept") c.args.change.now) form false)
    (sym c.in-Some.is ∙ c.in_ok-form.ensures d sound has ∙ ap (spec d ShelfForm) c.as_bytes.ensures)

pub returns-in-None : goal.returns-in-None
returns-in-None c = λ d sound has.
    ap (λ (form : Option FormValue). option_map_or (holds (codes "kept") c.args.change.now) form false)
    (sym c.in-None.is ∙ c.in_ok-form.ensures d sound has ∙ ap (spec d ShelfForm) c.as_bytes.ensures)
