use Rattle.std.proofs.Common.{◌∙◌, ap}
use Rattle.std.specs.Prelude.{unwrap_or}
use Rattle.protect_table.proofs.Naming.{behind_others}
use Rattle.protect_table.proofs.numbers.add.Goals as goal

pub returns : goal.returns
returns c = λ other.
    behind_others c.args.by_name.now c.remove-before.new.self c.insert.new.self c.args.name other c.args.number c.remove-before.result c.unwrap_or-numbers.result c.push.new.self
    c.remove-before.ensures.value (c.unwrap_or-numbers.ensures ∙ ap (unwrap_or c.remove-before.result) c.new.ensures) c.in_ok-push.ensures.ok
    (c.remove-before.ensures.updates.0 other) (c.in_ok-insert.ensures.updates.0 other)
