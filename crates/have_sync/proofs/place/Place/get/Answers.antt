use Rattle.std.proofs.Common.{sym, ap, subst, ◌∙◌}
use Rattle.std.specs.Option.{option_copied}
use Rattle.depot_rows.specs.table_store.Rows.{IsRising, row_at}
use Rattle.have_sync.proofs.Onward.{found_here}
use Rattle.have_sync.proofs.place.Place.get.Goals as goal

pub returns-clause-place : goal.returns-clause-place
returns-clause-place c = λ at. let by = c.go_to.ensures.place at in record { front = by.front; fits = by.fits }

pub returns-clause-found : goal.returns-clause-found
returns-clause-found c = λ at.
    let by = c.go_to.ensures.place at in
    let now = c.go_to.new.self in
    let key = c.args.key.now in
    let rows_are = by.fits.joined ∙ ap (λ v. v.now.rows) c.go_to.ensures.version in
    c.with_key.ensures
    ∙ found_here key by.front now.rest (option_copied now.next) by.fits.all (subst IsRising (sym rows_are) c.table-table.ensures.rising) by.below c.go_to.ensures.reached
    ∙ ap (row_at key) rows_are
