use Rattle.std.proofs.Common.{Option, ap, ◌∙◌}
use Rattle.std.specs.Prelude.{option_map}
use Rattle.depot_rows.specs.db_records.declared.record.Record.{Record}
use Rattle.depot_rows.specs.depot_model.Refusals.{refusal_row}
use Rattle.depot_rows.specs.depot_model.declared.refusal.Refusal.{Refusal}
use Rattle.command_parts.specs.Changes.{change_told}
use Rattle.command_parts.proofs.ChangeRows.{told_is}
use Rattle.command_parts.proofs.changes.change_refusal.Goals as goal

pub returns : goal.returns
returns c = λ d has.
    let caller = c.args.caller.now in
    c.in_ok-row.ensures
    ∙ ap (λ (r : Option Record). option_map refusal_row (change_told caller c.args.change r)) (c.change_of-found.ensures d has)
    ∙ ap (λ (o : Option Refusal). option_map refusal_row o) (told_is d caller c.args.change)
