use Rattle.std.proofs.Common.{ap, refl, ◌∙◌}
use Rattle.locked_tables.specs.Known.{TableKnown}
use Rattle.table_locks.proofs.Adding.{adds_peek}
use Rattle.table_locks.proofs.gathered.Gathered.peek.Goals as goal

pub returns-clause-seen : goal.returns-clause-seen
returns-clause-seen g c =
    let peek = c.in_ok-peek.peek in
    adds_peek g.N.Naming.rows c.args.table c.args.self.now _ c.requires.shown c.requires.apart peek (ap (λ (k : TableKnown). k.table) c.in_ok-peek.ensures.peek ∙ c.version-now.ensures.table) c.in_ok-version.version
    (c.in_ok-version.ensures ∙ c.version.ensures) c.put.ensures.this_table c.put.ensures.others refl c.in_ok-push.ensures.items
