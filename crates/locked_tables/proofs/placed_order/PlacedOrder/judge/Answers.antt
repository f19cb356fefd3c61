use Rattle.std.proofs.Common.{◌≡◌, not, List, length, slice_index_or, ap, subst, ◌∙◌, arith}
use mathlib.Core.List.{IsPrefix}
use Rattle.std.proofs.lemmas.Bool.{leb-true}
use Rattle.depot_model.specs.db_records.Table.{table_number}
use Rattle.locked_tables.specs.Known.{IsStill, TableKnown, is_touched}
use Rattle.locked_tables.specs.declared.taken.Taken.{Taken}
use Rattle.locked_tables.proofs.Rows.{rows_within}
use Rattle.locked_tables.proofs.Touched.{found_touch, no_later}
use Rattle.locked_tables.proofs.placed_order.PlacedOrder.judge.Goals as goal

pub returns-clause-still : goal.returns-clause-still
returns-clause-still g c = λ yes.
    let rows = g.N.Naming.rows in
    let table = c.peek.inside.version.table in
    let known : List Taken = c.peek.inside.note.list in
    let order : List Taken = c.self.inside.seat.list in
    let begins : IsPrefix known order = c.order_meet.ensures.begins in
    let number : c.number.result ≡ table_number table = c.number.ensures ∙ ap table_number c.table.ensures.table in
    let last = found_touch c.self.inside.touched order table c.number.result number c.self.invariant.6 in
    let within = leb-true (slice_index_or c.self.inside.touched c.number.result 0) c.peek.inside.places yes in
    let places : c.peek.inside.places ≡ length known = c.peek.invariant.1 in
    let seen : TableKnown = record { table = table; list = known } in
    let inner : IsStill rows order seen = rows_within table rows known order begins (omega (arith, last, within, places)) in
    subst (IsStill rows c.args.self.now) c.peek.view_is (subst (λ (l : List Taken). IsStill rows l seen) c.self.view_is inner)

pub returns-clause-judged : goal.returns-clause-judged
returns-clause-judged g c =
    let table = c.peek.inside.version.table in
    let order : List Taken = c.self.inside.seat.list in
    let number : c.number.result ≡ table_number table = c.number.ensures ∙ ap table_number c.table.ensures.table in
    let seen : TableKnown = record { table = table; list = c.peek.inside.note.list } in
    let inner = no_later order seen (slice_index_or c.self.inside.touched c.number.result 0) c.peek.inside.places (found_touch c.self.inside.touched order table c.number.result number c.self.invariant.6) c.peek.invariant.1 in
    inner ∙ (λ i. not (is_touched (c.self.view_is i) (c.peek.view_is i)))
