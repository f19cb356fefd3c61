use Rattle.std.proofs.Common.{◌++◌, ℕ, List, Option, sym, ap, ◌∙◌}
use Rattle.std.specs.Prelude.{flat_map}
use Rattle.depot_rows.specs.db_records.declared.table.TableId.TheVariants as table_ids
use Rattle.depot_rows.specs.table_changes.Changed.{rows_of}
use Rattle.depot_rows.specs.depot_model.declared.reply.Row.{Row}
use Rattle.depot_rows.specs.depot_model.Steps.Changes.{at_most}
use Rattle.change_lists.specs.Listed.{listed_at}
use Rattle.change_lists.proofs.Falling.{down}
use Rattle.change_lists.proofs.ListedRows.{newest_down, one_on}
use Rattle.change_lists.proofs.Newest.{down_from, down_on}
use Rattle.change_lists.proofs.listing.tell_newest.Goals as goal

pub loop-next-init : goal.loop-next-init
loop-next-init c = λ d caller sound asked has_change has_rev.
    let f = c.args.filter.now in
    ap (λ (l : List Row). c.args.rows.now ++ at_most c.args.most l)
    (sym (newest_down d caller f.status.now f.user.now f.client.now (rows_of c.args.tables.now table_ids.Change) sound has_change c.newest_number.result c.newest_number.ensures.above))

pub loop-next-preserved : goal.loop-next-preserved
loop-next-preserved c = λ d caller sound asked has_change has_rev.
    let f = c.args.filter.now in
    let at = c.loop-next in
    let n = c.in-Some.change in
    let g : ℕ → List Row = listed_at d caller f.status.now f.user.now f.client.now in
    let told = c.in_ok-told.told in
    (λ i. c.in_ok-left.ensures.rows i ++ at_most (c.in_ok-left.ensures.left i) (flat_map g (down_on n c.checked_sub-next.result c.checked_sub-next.ensures i)))
    ∙ sym (one_on at.rows (flat_map g (down n)) told at.left (c.is_full.ensures.not_full c.if-is_full.false))
    ∙ ap (λ (l : List Row). at.rows ++ at_most at.left (l ++ flat_map g (down n))) (c.in_ok-told.ensures d caller sound asked has_change has_rev)
    ∙ ap (λ (o : Option ℕ). at.rows ++ at_most at.left (flat_map g (down_from o))) (sym c.in-Some.is)
    ∙ at.invariant d caller sound asked has_change has_rev
