use Rattle.std.proofs.Common.{refl, sym, ap, ◌∙◌}
use Rattle.locked_tables.specs.Known.{TableKnown}
use Rattle.table_locks.proofs.Adding.{adds_held}
use Rattle.table_locks.proofs.gathered.Gathered.hold.Goals as goal

pub returns : goal.returns
returns g c =
    adds_held g.N.Naming.rows c.args.table c.args.self.now _ c.requires.shown c.requires.apart c.deref.result.now (ap (λ (k : TableKnown). k.table) c.deref.ensures ∙ c.in_ok-held.ensures.0) c.in_ok-version.version
    (c.in_ok-version.ensures ∙ c.version.ensures) c.put.ensures.this_table c.put.ensures.others c.in_ok-held.held (sym c.deref.ensures) c.in_ok-push.ensures.items refl
