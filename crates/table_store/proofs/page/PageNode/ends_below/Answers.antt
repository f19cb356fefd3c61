use Rattle.std.proofs.Common.{◌≡◌, ◌-◌, length, get_or, ap, ◌∙◌, arith}
use Rattle.table_store.proofs.Place.{below_where_last_is}
use Rattle.table_store.proofs.page.PageNode.ends_below.Goals as goal

pub returns : goal.returns
returns g c =
    let rows = c.self.inside.rows.items in
    let last = c.index.result.now in
    let is : last ≡ get_or rows (length rows - 1) last = c.index.ensures ∙ ap (λ k. get_or rows k last) (omega arith) in
    let answer = below_where_last_is g.O.RowOrder.place (g.O.RowOrder.place c.args.row.now) rows last c.self.invariant.0.filled is c.self.invariant.0.rising in
    rw (c.is_lt.ensures, c.compare.ensures, c.row.ensures, ← c.self.view_is) answer
