use Rattle.std.proofs.Common.{◌∙◌}
use Rattle.table_store.proofs.Nodes.{rows_of_push, filled_push}
use Rattle.table_store.proofs.node.push_row.Goals as goal

-- the node has the row alone
pub returns-clause-ok : goal.returns-clause-ok
returns-clause-ok g c = rw c.in_ok-push.ensures.items (rows_of_push c.args.list.now.items c.in_ok-new.field-0 c.args.row.now (c.in_ok-new.ensures ∙ c.in_ok-of_row.ensures))

pub returns-clause-filled : goal.returns-clause-filled
returns-clause-filled g c = rw c.in_ok-push.ensures.items (filled_push c.args.list.now.items c.in_ok-new.field-0 c.args.row.now (c.in_ok-new.ensures ∙ c.in_ok-of_row.ensures))
