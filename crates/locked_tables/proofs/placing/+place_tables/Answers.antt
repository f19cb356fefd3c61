use Rattle.std.proofs.Common.{rules, ◌≡◌, ℕ, ◌∷◌, List, Some, None, refl, sym, subst, ◌∙◌}
use Rattle.locked_tables.specs.Held.{AllNext}
use Rattle.locked_tables.specs.Placing.{AddsLanes}
use Rattle.locked_tables.proofs.Announced.{follows, is_placed, lanes_with, table_settled}
use Rattle.locked_tables.proofs.Lanes.{lanes_kept, lanes_more}
use Rattle.locked_tables.proofs.placing.+place_tables.Goals as goal

pub place_tables-all-requires : goal.place_tables-all-requires
place_tables-all-requires g t c κs within =
    let all : AllNext g.N.Naming.rows c.args.taken.changes (c.in-Some.first.now ∷ c.in-Some.rest.now) = subst (AllNext g.N.Naming.rows c.args.taken.changes) c.in-Some.ensures.cases.0 c.requires.next in
    (search rules, (search rules, (c.announce_lane-more.ensures.ready, all.1)))

pub settle-requires-clause-placed : goal.settle-requires-clause-placed
settle-requires-clause-placed g t c = is_placed c.table.invariant.0 c.announce_lane-more.ensures.announced c.place_tables-all.ensures.lanes c.args.taken c.place_tables-all.ensures.order

pub invariant_of-table : goal.invariant_of-table
invariant_of-table g t c =
    let rows = g.N.Naming.rows in
    let changes = c.args.taken.changes in
    let first = c.in-Some.first.now in
    let version = c.in-Some-take.version in
    let next : first.next ≡ Some version = search rules in
    let known = sym (c.table.view_is ∙ c.deref_mut-table.ensures.value) in
    let all : AllNext rows changes (first ∷ c.in-Some.rest.now) = subst (AllNext rows changes) c.in-Some.ensures.cases.0 c.requires.next in
    table_settled c.table.invariant.0 c.announce_lane-more.ensures.announced c.place_tables-all.ensures.lanes c.args.taken c.place_tables-all.ensures.order c.settle.ensures.lane
    rows c.table.inside.version.table version refl c.settle.ensures.last (follows rows changes first next known all.0)

pub returns-in-None-take-clause-lanes : goal.returns-in-None-take-clause-lanes
returns-in-None-take-clause-lanes g t c =
    let none : c.in-Some.first.now.next ≡ None = search rules in
    subst (λ (l : List ℕ). AddsLanes c.args.lanes l c.place_tables.result) (lanes_kept c.in-Some.ensures.cases.0 none) c.place_tables.ensures.lanes

pub returns-in-Some-take-clause-lanes : goal.returns-in-Some-take-clause-lanes
returns-in-Some-take-clause-lanes g t c =
    let next : c.in-Some.first.now.next ≡ Some c.in-Some-take.version = search rules in
    subst (λ (l : List ℕ). AddsLanes c.args.lanes l c.place_tables-all.result) (lanes_more c.in-Some.ensures.cases.0 next (c.table.view_is ∙ c.deref_mut-table.ensures.value))
    (lanes_with c.table.invariant.0 c.announce_lane-more.ensures.announced c.place_tables-all.ensures.lanes)
