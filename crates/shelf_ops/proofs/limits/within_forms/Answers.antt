use Rattle.std.proofs.Common.{List, length, sym, ap, ◌∙◌, arith}
use Rattle.std.specs.Prelude.{map, nat_lt, sum}
use Rattle.depot_rows.specs.declared.deed.Deed.{Deed}
use Rattle.shelf_ops.specs.Sizes.{size_by}
use Rattle.shelf_ops.proofs.Limited.{are_few, are_many, over_count, over_size, within_both}
use Rattle.shelf_ops.proofs.limits.within_forms.Goals as goal

pub returns-then-many : goal.returns-then-many
returns-then-many c = λ all d e model made.
    let over = c.if-many.true in
    let is = ap (λ (l : List Deed). length l) c.as_slice.ensures in
    over_count all d e model c.args.step made (are_many (length c.args.step.deeds) (omega (arith, over, is))) c.in_ok-row.row c.in_ok-row.ensures c.in_ok-refused.refused
    c.in_ok-refused.ensures

pub returns-then-large : goal.returns-then-large
returns-then-large c = λ all d e model made.
    let few = c.if-many.false in
    let is = ap (λ (l : List Deed). length l) c.as_slice.ensures in
    over_size all d e model c.args.step made (are_few (length c.args.step.deeds) (omega (arith, few, is)))
    (sym c.if-large.true ∙ c.are_large-large.ensures ∙ ap (λ (l : List Deed). nat_lt 16777216 (sum (map size_by l))) c.as_slice-2.ensures) c.in_ok-row-2.row c.in_ok-row-2.ensures
    c.in_ok-refused-2.refused c.in_ok-refused-2.ensures

pub returns : goal.returns
returns c = λ all d e model made.
    let few = c.if-many.false in
    let is = ap (λ (l : List Deed). length l) c.as_slice.ensures in
    within_both all d e model c.args.step made (are_few (length c.args.step.deeds) (omega (arith, few, is)))
    (sym c.if-large.false ∙ c.are_large-large.ensures ∙ ap (λ (l : List Deed). nat_lt 16777216 (sum (map size_by l))) c.as_slice-2.ensures)
