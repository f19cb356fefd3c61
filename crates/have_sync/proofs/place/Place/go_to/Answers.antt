use Rattle.std.proofs.Common.{sym, subst}
use Rattle.depot_rows.specs.table_store.Rows.{IsRising}
use Rattle.have_sync.proofs.place.Place.go_to.Goals as goal

pub returns-then-near-clause-place : goal.returns-then-near-clause-place
returns-then-near-clause-place c = λ at. c.go_near-near.ensures.place at c.if-near.true

pub returns-clause-place : goal.returns-clause-place
returns-clause-place c = λ at. c.search.ensures.place (subst (λ v. IsRising v.now.rows) (sym c.go_near-near.ensures.version) c.table-table.ensures.rising)
