use Rattle.std.proofs.Common.{ap, ◌∙◌, sym, Option}
use Rattle.std.specs.Prelude.{option_map}
use Rattle.depot_rows.specs.depot_model.declared.refusal.Refusal.{Refusal}
use Rattle.depot_rows.specs.depot_model.Refusals.{refusal_row}
use Rattle.depot_rows.specs.depot_model.Steps.Changing.{not_open}
use Rattle.change_lists.proofs.Saved.{first_here, first_on}
use Rattle.change_lists.proofs.saving.first_not_open.Goals as goal

pub returns-then-is_some : goal.returns-then-is_some
returns-then-is_some c = λ d caller same has.
    first_here (not_open d caller) c.loop-rest.rest.now c.path-item.result c.in_ok-refused.refused c.in-len1-up.len_at_least c.path-item.is (c.in_ok-refused.ensures d caller same has)
    (sym c.is_some.ensures ∙ c.if-is_some.true)
    ∙ ap (λ (o : Option Refusal). option_map refusal_row o) (c.loop-rest.invariant d caller same has)

pub loop-rest-preserved : goal.loop-rest-preserved
loop-rest-preserved c = λ d caller same has.
    first_on (not_open d caller) c.loop-rest.rest.now c.path-item.result c.in_ok-refused.refused c.in-len1-up.len_at_least c.path-item.is (c.in_ok-refused.ensures d caller same has)
    (sym c.is_some.ensures ∙ c.if-is_some.false)
    ∙ c.loop-rest.invariant d caller same has
