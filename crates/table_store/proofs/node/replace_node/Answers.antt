use Rattle.std.proofs.Common.{◌∙◌, arith}
use Rattle.table_store.proofs.Nodes.{replaced_none, replaced_one, replaced_two}
use Rattle.table_store.proofs.node.replace_node.Goals as goal

pub returns-in-None-clause-ok : goal.returns-in-None-clause-ok
returns-in-None-clause-ok g c = λ rows made.
    let none = rw c.in-None.is at made in
    rw c.remove.ensures.items (replaced_none _ _ (omega (arith, c.requires)) rows none)

pub returns-in_ok-list-in-One-clause-ok : goal.returns-in_ok-list-in-One-clause-ok
returns-in_ok-list-in-One-clause-ok g c = λ rows made.
    let one = rw c.in-One.is at made in
    replaced_one _ _ (omega (arith, c.requires)) rows _ (c.in_ok-list-in-One.ensures ∙ one.0) one.1

pub returns-in_ok-insert-in-Two-clause-ok : goal.returns-in_ok-insert-in-Two-clause-ok
returns-in_ok-insert-in-Two-clause-ok g c = λ rows made.
    let two = rw c.in-Two.is at made in
    rw c.in_ok-insert-in-Two.ensures.items (replaced_two c.args.list.now.items c.args.at (omega (arith, c.requires)) rows _ _ c.in_ok-lower-in-Two.lower c.in_ok-new-in-Two.field-0 c.in_ok-lower-in-Two.ensures c.in_ok-new-in-Two.ensures two.0 two.1 two.2)
