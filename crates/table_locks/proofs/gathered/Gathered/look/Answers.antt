use Rattle.std.proofs.Common.{Vec, List, get_or, map, refl, ap, sym, ◌∙◌}
use Rattle.depot_model.specs.db_records.Table.{all_tables}
use Rattle.locked_tables.specs.Held.{table_held}
use Rattle.locked_tables.specs.Known.{TableKnown}
use Rattle.locked_tables.specs.Taken.{rows_after}
use Rattle.locked_tables.specs.declared.taken.Taken.{Taken}
use Rattle.table_locks.specs.Ways.{looks_at}
use Rattle.table_locks.proofs.Adding.{filter_all, filter_next, next_unseen}
use Rattle.table_locks.proofs.Alone.{none_seen}
use Rattle.table_locks.proofs.Sets.{covers}
use Rattle.table_locks.proofs.gathered.Gathered.look.Goals as goal

pub loop-table-init : goal.loop-table-init
loop-table-init g c = record {
  same = refl;
  kept = refl;
  end = refl;
  shown = c.requires.shown;
  seen = ap (map (λ (k : TableKnown). k.table)) c.requires.unseen;
}

pub look_next-requires-clause-rows : goal.look_next-requires-clause-rows
look_next-requires-clause-rows g c =
    let at = c.loop-table in
    let table = get_or all_tables at.table-index _ in
    c.requires.rows table ∙ ap (λ (order : List Taken). rows_after g.N.Naming.rows order table) (sym at.invariant.same)

pub look_next-requires-clause-apart : goal.look_next-requires-clause-apart
look_next-requires-clause-apart g c = λ looks.
    let at = c.loop-table in
    let held = ap (λ (v : Vec _ _). map (λ h. table_held h) v.items) at.invariant.kept ∙ c.requires.held in
    next_unseen at.self c.args.whole c.args.needs.now at.table-index _ c.loop-table-test.true held at.invariant.seen looks

pub loop-table-preserved : goal.loop-table-preserved
loop-table-preserved g c =
    let at = c.loop-table in
    record {
      same = c.look_next.ensures.same ∙ at.invariant.same;
      kept = c.look_next.ensures.held ∙ at.invariant.kept;
      end = c.look_next.ensures.end ∙ at.invariant.end;
      shown = c.in_ok-look_next.ensures.seen.shown;
      seen = filter_next (looks_at c.args.whole c.args.needs.now) at.table-index _ c.loop-table-test.true _ _ at.invariant.seen c.in_ok-look_next.ensures.seen.peeks;
    }

pub returns-clause-held : goal.returns-clause-held
returns-clause-held g c = ap (λ (v : Vec _ _). map (λ h. table_held h) v.items) c.loop-table.invariant.kept ∙ c.requires.held

pub returns-clause-seen : goal.returns-clause-seen
returns-clause-seen g c = filter_all (looks_at c.args.whole c.args.needs.now) c.loop-table.table-index c.loop-table-test.false _ c.loop-table.invariant.seen

pub returns-clause-alone : goal.returns-clause-alone
returns-clause-alone g c = λ yes.
    let seen = filter_all (looks_at c.args.whole c.args.needs.now) c.loop-table.table-index c.loop-table-test.false _ c.loop-table.invariant.seen in
    none_seen c.loop-table.self c.args.whole c.args.needs.now seen yes

pub returns-clause-covers : goal.returns-clause-covers
returns-clause-covers g c = λ request set.
    let held = ap (λ (v : Vec _ _). map (λ h. table_held h) v.items) c.loop-table.invariant.kept ∙ c.requires.held in
    let seen = filter_all (looks_at c.args.whole c.args.needs.now) c.loop-table.table-index c.loop-table-test.false _ c.loop-table.invariant.seen in
    covers c.loop-table.self c.args.whole c.args.needs.now held seen request set
