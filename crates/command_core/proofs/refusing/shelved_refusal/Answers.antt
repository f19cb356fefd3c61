use Rattle.std.proofs.Common.{Some, sym, ap, ◌∙◌}
use Rattle.std.specs.Prelude.{option_map}
use Rattle.depot_rows.specs.depot_model.declared.refusal.Refusal.TheVariants.{Shelved}
use Rattle.depot_rows.specs.depot_model.Refusals.{refusal_row}
use Rattle.depot_rows.specs.depot_model.Step.{refuse_if}
use Rattle.command_core.proofs.refusing.shelved_refusal.Goals as goal

pub returns-then-not-shelved : goal.returns-then-not-shelved
returns-then-not-shelved c = λ d sound domain.
    ap (λ b. option_map refusal_row (refuse_if b (Shelved c.args.change))) (sym c.if-not-shelved.true ∙ c.in_ok-shelved.ensures d sound domain)

pub returns : goal.returns
returns c = λ d sound domain.
    ap Some c.in_ok-row.ensures
    ∙ ap (λ b. option_map refusal_row (refuse_if b (Shelved c.args.change))) (sym c.if-not-shelved.false ∙ c.in_ok-shelved.ensures d sound domain)
