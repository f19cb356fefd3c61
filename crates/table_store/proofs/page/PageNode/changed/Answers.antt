use Rattle.std.proofs.Common.{arith}
use Rattle.std.proofs.lemmas.List.{take-append-drop}
use Rattle.table_store.proofs.Nodes.{page_lower, page_upper}
use Rattle.table_store.proofs.page.PageNode.changed.Goals as goal

pub from_rows-requires-2 : goal.from_rows-requires-2
from_rows-requires-2 g c = page_lower g.O.RowOrder.place 32 c.in_ok-rows.rows.items _ c.in_ok-upper.ensures.items (omega arith) (omega arith) (omega arith) c.in_ok-rows.ensures.rising

pub from_rows-requires-3 : goal.from_rows-requires-3
from_rows-requires-3 g c = page_upper g.O.RowOrder.place 32 c.in_ok-rows.rows.items _ c.in_ok-upper.ensures.tail (omega arith) (omega (arith, c.in_ok-rows.ensures.short)) c.in_ok-rows.ensures.rising

pub returns : goal.returns
returns g c =
    let rows = c.in_ok-rows.rows.items in
    let lower = page_lower g.O.RowOrder.place 32 rows _ c.in_ok-upper.ensures.items (omega arith) (omega arith) (omega arith) c.in_ok-rows.ensures.rising in
    let upper = page_upper g.O.RowOrder.place 32 rows _ c.in_ok-upper.ensures.tail (omega arith) (omega (arith, c.in_ok-rows.ensures.short)) c.in_ok-rows.ensures.rising in
    rw (c.in_ok-from_rows-2.ensures, c.in_ok-from_rows-3.ensures, ← c.in_ok-rows.ensures.ok) (rw (c.in_ok-upper.ensures.items, c.in_ok-upper.ensures.tail) (take-append-drop 32 rows), lower.filled, upper.filled)
