use Rattle.std.proofs.Common.{◌≡◌, ◌∷◌, length, take, drop, rules, sym, ap, ◌∙◌, arith, refl}
use Rattle.std.proofs.lemmas.List.{length-append, length-take, length-drop}
use Rattle.std.specs.List.{insert}
use denote.Enum.Bare.{same_true, same_false}
use Rattle.db_records.specs.contracts.change.Op.{the_type}
use Rattle.table_store.proofs.Place.{row_absent, row_added, page_changed, fits_page, fits_no_page}
use Rattle.table_store.proofs.page.add_row.Goals as goal

pub returns-then-eq-clause-done : goal.returns-then-eq-clause-done
returns-then-eq-clause-done g c = λ _. row_absent g.O.RowOrder.place c.args.rows.now.items c.args.op c.args.row.now c.args.at c.requires.place (same_true the_type (search rules) _ _ (sym c.if-eq.ensures))

pub returns-clause-done : goal.returns-clause-done
returns-clause-done g c = λ _.
    c.in_ok-insert.ensures.items
    ∙ ap (insert c.args.rows.now.items c.args.at) c.in_ok-share.ensures
    ∙ row_added g.O.RowOrder.place c.args.rows.now.items c.args.op c.args.row.now c.args.at c.requires.place (same_false the_type _ _ (sym c.if-eq.ensures))

pub returns-clause-page : goal.returns-clause-page
returns-clause-page g c = page_changed g.O.RowOrder.place c.args.rows.now.items c.insert.new.self.items c.args.op c.args.row.now c.requires.page.rising (returns-clause-done g c refl) (omega (arith, c.in_ok-insert.ensures.len)) (omega (arith, c.in_ok-insert.ensures.len))

pub returns-then-eq-clause-exactly : goal.returns-then-eq-clause-exactly
returns-then-eq-clause-exactly g c = fits_page g.O.RowOrder.place c.args.rows.now.items c.args.rows.now.items c.args.op c.args.row.now (returns-then-eq-clause-done g c refl) c.requires.page.filled c.requires.page.short

pub returns-then-len-eq-PAGE_ROWS-clause-exactly : goal.returns-then-len-eq-PAGE_ROWS-clause-exactly
returns-then-len-eq-PAGE_ROWS-clause-exactly g c =
    let rows = c.args.rows.now.items in
    let row = c.args.row.now in
    let made = row_added g.O.RowOrder.place rows c.args.op c.args.row.now c.args.at c.requires.place (same_false the_type _ _ (sym c.if-eq.ensures)) in
    let longer : length (insert rows c.args.at row) ≡ 65 = omega (arith, c.requires.place.in_range, length-append (take c.args.at rows) (row ∷ drop c.args.at rows), length-take c.args.at rows, length-drop c.args.at rows) in
    fits_no_page g.O.RowOrder.place rows (insert rows c.args.at row) c.args.op c.args.row.now made (λ low high. omega arith)

pub returns-clause-exactly : goal.returns-clause-exactly
returns-clause-exactly g c = fits_page g.O.RowOrder.place c.args.rows.now.items c.insert.new.self.items c.args.op c.args.row.now (returns-clause-done g c refl) (omega (arith, c.in_ok-insert.ensures.len)) (omega (arith, c.in_ok-insert.ensures.len))
