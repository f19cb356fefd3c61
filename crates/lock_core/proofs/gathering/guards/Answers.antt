use Rattle.std.proofs.Common.{sym, ap, ◌∙◌}
use Rattle.command_needs.specs.Sets.{tables_in}
use Rattle.command_needs.proofs.Listed.{in_tables}
use Rattle.lock_machine.specs.Machine.{guards}
use Rattle.lock_core.proofs.gathering.guards.Goals as goal

pub returns-in-Table : goal.returns-in-Table
returns-in-Table c = c.has.ensures ∙ (sym (in_tables c.args.tables c.in-Table.table) ∙ ap (guards (tables_in c.args.tables)) (sym c.in-Table.is))
