use Rattle.std.proofs.Common.{arith}
use Rattle.revision_reads.specs.Choice.{choice_of}
use Rattle.revision_reads.specs.Range.{is_asked}
use Rattle.revision_reads.proofs.Asked.{one_further}
use Rattle.revision_reads.proofs.range.asked_of.Goals as goal

pub loop-rev-preserved : goal.loop-rev-preserved
loop-rev-preserved c = record {
  within = omega (arith, c.loop-rev-test.true);
  asked = λ d sound rev change head.
      one_further (is_asked d c.args.path.now c.args.wanted.now (choice_of c.args.chosen)) c.loop-rev.numbers.items c.add_asked.new.numbers.items _ c.loop-rev.rev c.args.head
      c.loop-rev-test.true (c.in_ok-add_asked.ensures d sound rev change head) (c.loop-rev.invariant.asked d sound rev change head);
}
