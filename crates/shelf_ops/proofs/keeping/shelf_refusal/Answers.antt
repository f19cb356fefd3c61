use Rattle.std.proofs.Common.{Some, sym, ap, ◌∙◌}
use Rattle.std.specs.Prelude.{option_map}
use Rattle.depot_rows.specs.depot_model.Refusals.{refusal_row}
use Rattle.shelf_ops.proofs.Shelf.{has_none, has_some}
use Rattle.shelf_ops.proofs.keeping.shelf_refusal.Goals as goal

pub returns-then-is_empty : goal.returns-then-is_empty
returns-then-is_empty c = λ d caller sound asked domain.
    ap Some c.in_ok-row.ensures
    ∙ sym (ap (option_map refusal_row)
    (has_none d caller c.args.change c.in_ok-files.files (c.in_ok-files.ensures d caller sound asked domain) c.is_empty.result c.is_empty.ensures c.if-is_empty.true))

pub returns : goal.returns
returns c = λ d caller sound asked domain.
    sym (ap (option_map refusal_row)
    (has_some d caller c.args.change c.in_ok-files.files (c.in_ok-files.ensures d caller sound asked domain) c.is_empty.result c.is_empty.ensures c.if-is_empty.false))
