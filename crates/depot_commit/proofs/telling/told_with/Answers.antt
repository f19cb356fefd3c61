use Rattle.std.proofs.Common.{List, refl, ap, ◌∙◌}
use Rattle.depot_rows.specs.depot_model.Printed.{printed}
use Rattle.depot_rows.specs.depot_model.declared.reply.Row.{Row}
use Rattle.depot_commit.proofs.telling.told_with.Goals as goal

pub returns-in-Ok-clause-told : goal.returns-in-Ok-clause-told
returns-in-Ok-clause-told c = record { changes = refl; stores = refl; of_fault = c.requires.fault; small = c.requires.small; counted = c.requires.counted }

pub returns-in-Ok-clause-reply : goal.returns-in-Ok-clause-reply
returns-in-Ok-clause-reply c = λ rows is contents. c.in-Ok.ensures ∙ ap (λ (told : List Row). printed told c.args.number) (c.filled-whole.ensures rows is contents)
