use Rattle.history_query.proofs.Above.{at_two}
use Rattle.history_query.proofs.directories.add_directories.Goals as goal

pub returns : goal.returns
returns c =
    let bytes = c.as_bytes-bytes in
    let at = c.loop-end in
    at_two c.args.pattern.now c.args.path.now bytes.result.now at.end c.args.set.now _ bytes.ensures.value bytes.ensures.path at.invariant.low c.loop-end-test.false at.invariant.fitting
