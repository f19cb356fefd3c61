use Rattle.std.proofs.Common.{◌≡◌, ◌≤◌, ℕ, List, [], ◌∷◌, ◌++◌, length, map, vec_capacity, sym, ap, subst, ◌∙◌, arith}
use Rattle.std.specs.Prelude.{if◌then◌else◌}
use Rattle.std.proofs.lemmas.List.{length-map}
use mathlib.Core.List.{map-append}
use Rattle.order_words.specs.Seats.{OrderState}
use Rattle.table_changes.specs.Changed.{changed_by}
use Rattle.locked_tables.specs.Held.{lanes_next}
use Rattle.locked_tables.specs.Known.{all_places}
use Rattle.locked_tables.specs.Placing.{TakesPlace, TouchesLanes}
use Rattle.locked_tables.specs.Taken.{end_after, place_of, rows_after}
use Rattle.locked_tables.specs.declared.taken.Taken.{Taken}
use Rattle.locked_tables.proofs.Archive.{end_placed}
use Rattle.locked_tables.proofs.Lanes.{next_of_tables, none_among}
use Rattle.locked_tables.proofs.Placed.{counts_kept, of_archive, parties_kept, rows_changed_by, tables_kept, takes_place}
use Rattle.locked_tables.proofs.Room.{has_room, left_behind}
use Rattle.locked_tables.proofs.Touched.{touched_next}
use Rattle.locked_tables.proofs.placed_order.PlacedOrder.place.Goals as goal

pub place-lanes-requires-clause-ready : goal.place-lanes-requires-clause-ready
place-lanes-requires-clause-ready g c =
    let order = c.self.inside.seat.list in
    let long = ap length c.self.invariant.1 ∙ length-map order place_of in
    record { of_run = c.self.invariant.0; room = omega (arith, long, c.self.inside.places.ok.0); parties = c.self.invariant.3; checked = none_among c.self.inside.seat.checked }

pub push_reserved-requires : goal.push_reserved-requires
push_reserved-requires g c =
    let places = g.N.Naming.places in
    let order = c.self.inside.seat.list in
    let known = c.args.pass.now in
    let placed = c.place-lanes.ensures.placed in
    let behind = left_behind places known order c.place-lanes.new.order.list placed.own c.requires.room in
    let less = has_room g.N.Naming.run places order c.self.invariant.3 c.self.invariant.4 known.party placed.party behind c.self.inside.places.items (vec_capacity c.self.inside.places) c.self.invariant.1 c.self.invariant.5 in
    omega (arith, less, c.self.inside.places.ok.0)

pub invariant_of-self : goal.invariant_of-self
invariant_of-self g c =
    let places = g.N.Naming.places in
    let order = c.self.inside.seat.list in
    let after = c.place-lanes.new.order.list in
    let placed = c.place-lanes.ensures.placed in
    let entry : Taken = record c.args.taken { lanes = c.place-lanes.result } in
    let touches : TouchesLanes g.N.Naming.run entry g.A.ArchiveLane.is_held g.J.JournalLane.is_held c.args.pass.now.party (lanes_next c.args.held.now) =
    record { of_run = placed.party; below = next_of_tables c.args.held.now; are = c.place-lanes.ensures.lanes } in
    let last = (takes_place placed).last in
    let items = c.push_reserved.ensures.items
    ∙ (λ i. c.self.invariant.1 i ++ c.place-place.ensures i ∷ [])
    ∙ sym (map-append place_of order (entry ∷ []))
    ∙ ap (map place_of) (sym last) in (
      ap (λ (o : OrderState Taken). o.run) placed.order ∙ c.self.invariant.0,
      items,
      tables_kept touches order after last c.requires.only c.self.invariant.2,
      parties_kept touches order after last c.requires.party c.self.invariant.3,
      counts_kept places c.args.pass.now order after entry last placed.own c.requires.party c.requires.room c.self.invariant.4,
      subst (λ (n : ℕ). all_places places 16 ≤ n) (sym c.push_reserved.ensures.capacity) c.self.invariant.5,
      touched_next c.self.inside.touched _ order after entry c.places.result last c.places.ensures c.touch_tables.ensures c.self.invariant.6,
    )

pub returns-clause-touches : goal.returns-clause-touches
returns-clause-touches g c = record { of_run = c.place-lanes.ensures.placed.party; below = next_of_tables c.args.held.now; are = c.place-lanes.ensures.lanes }

pub returns-clause-placed : goal.returns-clause-placed
returns-clause-placed g c =
    subst (λ (l : List Taken). TakesPlace l c.place-lanes.new.order.list c.args.pass.now c.place-lanes.new.pass (record c.args.taken { lanes = c.place-lanes.result })) c.self.view_is (takes_place c.place-lanes.ensures.placed)

pub returns-clause-end : goal.returns-clause-end
returns-clause-end g c =
    let archive = g.A.ArchiveLane.is_held in
    let end = g.N.Naming.end in
    let after = c.place-lanes.new.order.list in
    subst (λ (l : List Taken). end_after end after ≡ (if archive then c.args.taken.end else end_after end l)) c.self.view_is
    (end_placed end c.self.inside.seat.list after _ archive (takes_place c.place-lanes.ensures.placed).last (of_archive (returns-clause-touches g c)))

pub returns-clause-rows : goal.returns-clause-rows
returns-clause-rows g c = λ table.
    let rows = g.N.Naming.rows in
    let after = c.place-lanes.new.order.list in
    subst (λ (l : List Taken). rows_after rows after table ≡ changed_by (rows_after rows l) c.args.taken.changes table) c.self.view_is
    (rows_changed_by (returns-clause-touches g c) c.self.inside.seat.list after (takes_place c.place-lanes.ensures.placed).last c.requires.only rows table)
