use Rattle.std.proofs.Common.{Some, sym, ap, ◌∙◌}
use Rattle.std.specs.Prelude.{option_map}
use Rattle.depot_rows.specs.depot_model.declared.refusal.Refusal.TheVariants.{Fixed}
use Rattle.depot_rows.specs.depot_model.Refusals.{refusal_row}
use Rattle.depot_rows.specs.depot_model.Step.{refuse_if}
use Rattle.command_core.proofs.refusing.fixed_refusal.Goals as goal

pub returns-then-not-fixing : goal.returns-then-not-fixing
returns-then-not-fixing c = λ d sound domain.
    ap (λ b. option_map refusal_row (refuse_if b (Fixed c.args.change))) (sym c.if-not-fixing.true ∙ c.in_ok-fixing.ensures d sound domain)

pub returns : goal.returns
returns c = λ d sound domain.
    ap Some c.in_ok-row.ensures
    ∙ ap (λ b. option_map refusal_row (refuse_if b (Fixed c.args.change))) (sym c.if-not-fixing.false ∙ c.in_ok-fixing.ensures d sound domain)
