use Rattle.std.proofs.Common.{[], ◌∷◌, sym, ◌∙◌}
use Rattle.depot_rows.specs.depot_model.declared.refusal.Refusal.TheVariants.{Shelved, Fixed}
use Rattle.depot_rows.specs.depot_model.Fixes.{is_fixing}
use Rattle.depot_rows.specs.depot_model.Shelves.{is_shelved}
use Rattle.depot_rows.specs.depot_model.Step.{refuse_if}
use Rattle.command_core.proofs.Refusals.{first_here, first_later, one_refusal}
use Rattle.command_core.proofs.refusing.held_refusal.Goals as goal

pub returns-in-Some : goal.returns-in-Some
returns-in-Some c = λ d sound domain.
    let shelved = refuse_if (is_shelved d c.args.change) (Shelved c.args.change) in
    let fixed = refuse_if (is_fixing d c.args.change) (Fixed c.args.change) in
    first_here (shelved ∷ []) (fixed ∷ []) c.in-Some.row (sym c.in-Some.is ∙ c.in_ok-shelved.ensures d sound domain ∙ one_refusal shelved)

pub returns-in_ok-fixed-in-None : goal.returns-in_ok-fixed-in-None
returns-in_ok-fixed-in-None c = λ d sound domain.
    let shelved = refuse_if (is_shelved d c.args.change) (Shelved c.args.change) in
    let fixed = refuse_if (is_fixing d c.args.change) (Fixed c.args.change) in
    c.in_ok-fixed-in-None.ensures d sound domain ∙ one_refusal fixed
    ∙ first_later (shelved ∷ []) (fixed ∷ []) (sym c.in-None.is ∙ c.in_ok-shelved.ensures d sound domain ∙ one_refusal shelved)
