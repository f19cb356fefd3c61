use Rattle.std.proofs.Common.{◌≡◌, length, rules, sym, subst, arith}
use mathlib.Core.Bool.{false≢true}
use denote.Enum.Bare.{differs_true, differs_false}
use Rattle.db_records.specs.contracts.change.Op.{the_type}
use Rattle.db_records.specs.declared.record.Record.{Record}
use Rattle.table_store.specs.Places.{AllStandBelow}
use Rattle.table_store.proofs.page.PageNode.ends_before.Goals as goal

pub returns-then-ne : goal.returns-then-ne
returns-then-ne g c = ((λ e. absurd (false≢true e)), (λ all. absurd (differs_true the_type _ _ (sym c.if-ne.ensures) all.0)))

pub returns : goal.returns
returns g c =
    let full : length c.self.inside.rows.items ≡ 64 = omega (arith, c.self.invariant.0.short) in
    let at = λ (r : Record). AllStandBelow g.O.RowOrder.place (g.O.RowOrder.place r) c.args.self.now in
    let here : length c.args.self.now ≡ 64 = rw (← c.self.view_is) full in
    ((λ low. (differs_false the_type (search rules) _ _ (sym c.if-ne.ensures), here, subst at c.row.ensures (c.ends_below.ensures.0 low))), (λ all. c.ends_below.ensures.1 (subst at (sym c.row.ensures) all.2)))
