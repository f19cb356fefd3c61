use Rattle.std.proofs.Common.{arith}
use Rattle.wire_text.proofs.Items.{no_item, entry_passed, command_there}
use Rattle.wire_text.proofs.reader.read_item.Goals as goal

pub returns-in-Some-clause-item : goal.returns-in-Some-clause-item
returns-in-Some-clause-item g c =
    let k = rw c.in-Read.is at c.in_ok-entry.ensures.part in
    let kept = rw c.in-Some.is at c.in_ok-item-in-Read.ensures in
    command_there _ _ _ _ _ _ _ _ _ _ _ _ _ _ _ _ _ c.in-Read.entry c.loop-entry.invariant.passed k.2 c.in-Some.item kept.0 kept.1 (omega (arith, c.loop-entry.invariant.number, k.0)) k.1

pub loop-entry-preserved : goal.loop-entry-preserved
loop-entry-preserved g c =
    let k = rw c.in-Read.is at c.in_ok-entry.ensures.part in
    record {
      passed = entry_passed _ _ _ _ _ _ _ _ _ _ _ _ _ _ _ _ _ c.in-Read.entry c.loop-entry.invariant.passed k.2 (no_item c.in-Read.entry _ _ _ c.in_default.not-Some c.in_ok-item-in-Read.ensures);
      number = omega (arith, c.loop-entry.invariant.number, k.0);
      counts = omega (arith, c.loop-entry.invariant.counts, c.in_ok-entry.ensures.counts);
    }
