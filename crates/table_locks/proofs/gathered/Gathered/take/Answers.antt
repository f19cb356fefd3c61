use Rattle.std.proofs.Common.{sym, ◌∙◌}
use Rattle.table_locks.specs.Ways.{holds_table}
use Rattle.table_locks.proofs.Adding.{held_none, held_passed, on_ok}
use Rattle.table_locks.proofs.gathered.Gathered.take.Goals as goal

pub returns-then-is_taken : goal.returns-then-is_taken
returns-then-is_taken g c =
    on_ok c.hold.result
    (held_passed g.N.Naming.rows (holds_table c.args.whole c.args.needs.now) c.args.table c.args.self.now c.hold.new.self (sym c.is_taken.ensures ∙ c.if-is_taken.true))
    c.hold.ensures

pub returns : goal.returns
returns g c = held_none g.N.Naming.rows (holds_table c.args.whole c.args.needs.now) c.args.table c.args.self.now c.requires.shown (sym c.is_taken.ensures ∙ c.if-is_taken.false)
