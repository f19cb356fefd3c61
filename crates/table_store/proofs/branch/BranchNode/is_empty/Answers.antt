use Rattle.std.proofs.Common.{arith}
use Rattle.std.proofs.lemmas.Grind.{common_steps}
use Rattle.table_store.proofs.Nodes.{rows_of-none, rows_of-some}
use Rattle.table_store.proofs.branch.BranchNode.is_empty.Goals as goal

pub returns : goal.returns
returns g c = rw (← c.self.view_is) (grind (arith, common_steps, rows_of-none c.self.inside.list.items, rows_of-some c.self.inside.list.items c.self.invariant.filled))
