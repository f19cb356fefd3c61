use Rattle.std.proofs.Common.{Some, refl, subst}
use Rattle.journal_groups.specs.Reader.{HasTaken}
use Rattle.replica_chain.specs.Counting.{IsNextGroupOf}
use Rattle.replica_chain.proofs.Counts.{counted_group}
use Rattle.replica_chain.proofs.counting.Counter.count_groups.Goals as goal

pub loop-changes-preserved : goal.loop-changes-preserved
loop-changes-preserved c =
    let mid = c.loop-changes.self in
    let changes = c.in-Some.changes in
    let taken : HasTaken mid.reader c.next_group.new.reader (Some changes) = subst (IsNextGroupOf mid.reader c.next_group.new.reader) c.in-Some.is c.in_ok-changes.ensures.taken in
    record {
      counted = λ text has. counted_group text mid.reader c.next_group.new.reader mid.groups _ changes (c.loop-changes.invariant.counted text has) taken refl;
      bytes = c.loop-changes.invariant.bytes;
    }
