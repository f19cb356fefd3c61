use Rattle.std.proofs.Common.{Option, ap, ◌∙◌}
use Rattle.std.specs.Prelude.{option_map}
use Rattle.std.specs.Option.{option_copied}
use Rattle.depot_rows.specs.depot_model.declared.refusal.Refusal.{Refusal}
use Rattle.depot_rows.specs.depot_model.Refusals.{refusal_row}
use Rattle.change_lists.proofs.Moved.{unopened_is}
use Rattle.change_lists.proofs.saving.not_open.Goals as goal

pub returns : goal.returns
returns c = λ d caller same has.
    let path = c.args.path.now in
    c.in_ok-refused.ensures
    ∙ ap (λ (o : Option Refusal). option_map refusal_row o) (unopened_is d caller c.args.client.now path same (option_copied c.in_ok-row.row) (c.in_ok-row.ensures d has))
