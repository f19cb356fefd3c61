use Rattle.std.proofs.Common.{◌++◌, ap}
use Rattle.journal_groups.specs.Reader.{State}
use Rattle.replica_chain.proofs.Counts.{counted_more}
use Rattle.replica_chain.proofs.counting.Counter.take.Goals as goal

pub returns-clause-counted : goal.returns-clause-counted
returns-clause-counted c = λ text has.
    let more = c.in_ok-more.ensures.ok in
    c.in_ok-count_groups.ensures.counted (text ++ c.args.piece.now)
    (counted_more text c.args.piece.now c.args.self.now.reader c.more.new.self c.args.self.now.groups has (ap (λ (state : State). state.left) more) (ap (λ (state : State). state.number) more))
