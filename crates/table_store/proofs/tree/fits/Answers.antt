use Rattle.std.proofs.Common.{rules, sym, ap, ◌∙◌, subst}
use denote.Enum.Bare.{same_true, true_same}
use Rattle.db_records.specs.contracts.change.Op.{the_type}
use Rattle.db_records.specs.Record.{key_of}
use Rattle.table_store.specs.Rows.{AllBelow, row_at}
use Rattle.table_store.specs.Places.{at_key, by_key}
use Rattle.table_store.specs.Nodes.{rows_of}
use Rattle.table_store.proofs.Order.{standing_at-below}
use Rattle.table_store.proofs.Changes.{fits_where_none}
use Rattle.table_store.proofs.tree.fits.Goals as goal

-- no row is at a key above all rows
pub returns-then-end_below : goal.returns-then-end_below
returns-then-end_below c =
    let change = c.args.change.now in
    let key = key_of change.row in
    let low = subst (AllBelow key) (ap rows_of c.deref.ensures.value ∙ c.tree.view_is) (c.end_below.ensures.0 c.if-end_below.true) in
    fits_where_none change.op change.row (row_at key c.args.tree.now) c.eq.result (standing_at-below by_key (at_key key) c.args.tree.now low) (λ t. same_true the_type (search rules) _ _ (sym c.eq.ensures ∙ t)) (λ e. c.eq.ensures ∙ true_same the_type _ _ e)
