use Rattle.std.proofs.Common.{rules}
use Rattle.std.proofs.lemmas.Fn.{always_returns_same}
use Rattle.table_store.specs.Places.{place_cmp}
use Rattle.table_store.specs.SearchKey.{sought_place}
use Rattle.table_store.proofs.Place.{searched}
use Rattle.table_store.proofs.page.Page.find.Goals as goal

-- the closure orders a row and the key, and the slice is the page's rows
pub returns-clause-place : goal.returns-clause-place
returns-clause-place g c =
    let facts = c.binary_search_by.ensures in
    let by_key = facts.position (λ row. place_cmp (g.O.RowOrder.place row) (sought_place g.O.RowOrder.place c.args.sought)) (always_returns_same _ _ _ (λ a r g called. search rules)) in
    rw (← c.self.view_is, ← c.deref.ensures.value) (searched g.O.RowOrder.place _ _ (rw c.deref.ensures.value c.self.invariant.0.rising) _ facts.bound by_key)
