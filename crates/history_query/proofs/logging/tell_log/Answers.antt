use Rattle.std.proofs.Common.{[], ◌∷◌, ap, ◌∙◌}
use Rattle.depot_rows.specs.depot_model.declared.reply.Row.{Row}
use Rattle.reply_rows.specs.Made.{told}
use Rattle.history_query.proofs.logging.tell_log.Goals as goal

pub returns : goal.returns
returns c = λ d caller reads. c.in_ok-step.ensures ∙ ap (λ (r : Row). told (r ∷ [])) (c.in_ok-row.ensures d caller reads c.in_ok-range.ensures.range)
