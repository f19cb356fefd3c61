use Rattle.std.proofs.Common.{Vec, ap, map, ◌∙◌}
use Rattle.locked_tables.specs.Held.{table_held}
use Rattle.table_locks.specs.Ways.{holds_table}
use Rattle.table_locks.proofs.Adding.{filter_all, filter_next, next_unheld, none_shown}
use Rattle.table_locks.proofs.gathering.gather.Goals as goal

pub loop-table-init : goal.loop-table-init
loop-table-init g c =
    let made = c.in_ok-gathered.gathered in
    let none = c.in_ok-gathered.ensures in
    record {
      shown = none_shown made none.0 none.1 g.N.Naming.rows;
      held = ap (map (λ h. table_held h)) none.0;
      unseen = none.1;
    }

pub take-requires-clause-apart : goal.take-requires-clause-apart
take-requires-clause-apart g c =
    let at = c.loop-table in
    next_unheld at.gathered c.args.whole c.args.needs.now at.table-index _ c.loop-table-test.true at.invariant.held at.invariant.unseen

pub loop-table-preserved : goal.loop-table-preserved
loop-table-preserved g c =
    let at = c.loop-table in
    record {
      shown = c.in_ok-take.ensures.shown;
      held = filter_next (holds_table c.args.whole c.args.needs.now) at.table-index _ c.loop-table-test.true _ _ at.invariant.held c.in_ok-take.ensures.held;
      unseen = ap (λ (v : Vec _ _). v.items) c.in_ok-take.ensures.peeks ∙ at.invariant.unseen;
    }

pub returns-clause-held : goal.returns-clause-held
returns-clause-held g c = filter_all (holds_table c.args.whole c.args.needs.now) c.loop-table.table-index c.loop-table-test.false _ c.loop-table.invariant.held
