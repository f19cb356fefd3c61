use Rattle.std.proofs.Common.{sym, ◌∙◌}
use Rattle.table_locks.specs.Ways.{looks_at}
use Rattle.table_locks.proofs.Adding.{on_ok, peek_none, peek_passed}
use Rattle.table_locks.proofs.gathered.Gathered.look_next.Goals as goal

pub peek-requires-clause-apart : goal.peek-requires-clause-apart
peek-requires-clause-apart g c = c.requires.apart (sym c.is_looked_at.ensures ∙ c.if-is_looked_at.true)

pub returns-then-is_looked_at-clause-seen : goal.returns-then-is_looked_at-clause-seen
returns-then-is_looked_at-clause-seen g c =
    on_ok c.peek.result
    (peek_passed g.N.Naming.rows (looks_at c.args.whole c.args.needs.now) c.args.table c.args.self.now c.peek.new.self (sym c.is_looked_at.ensures ∙ c.if-is_looked_at.true))
    c.peek.ensures.seen

pub returns-clause-seen : goal.returns-clause-seen
returns-clause-seen g c = peek_none g.N.Naming.rows (looks_at c.args.whole c.args.needs.now) c.args.table c.args.self.now c.requires.shown (sym c.is_looked_at.ensures ∙ c.if-is_looked_at.false)
