use Rattle.replica_chain.proofs.Counts.{next_of}
use Rattle.replica_chain.proofs.counting.next_group.Goals as goal

pub returns-in-Ok-clause-taken : goal.returns-in-Ok-clause-taken
returns-in-Ok-clause-taken c = next_of c.args.reader.now c.next.new.self c.in-Ok.found c.in-Ok.ensures.found

pub returns-in-Err-BadGroup-clause-taken : goal.returns-in-Err-BadGroup-clause-taken
returns-in-Err-BadGroup-clause-taken c =
    let only = rw c.in-Err-BadGroup.field-0-is at c.in-Err-BadGroup.ensures.only in
    (c.in-Err-BadGroup.ensures.kept, λ changes behind are is. only changes behind are is)

pub returns-in-Err-Short-clause-taken : goal.returns-in-Err-Short-clause-taken
returns-in-Err-Short-clause-taken c =
    let only = rw c.in-Err-Short.field-0-is at c.in-Err-Short.ensures.only in
    (c.in-Err-Short.ensures.kept, λ changes behind are is. only changes behind are is)
