use Rattle.std.proofs.Common.{arith}
use Rattle.wire_text.specs.Parts.{parted}
use Rattle.wire_text.proofs.Heads.{count_is, few_parts}
use Rattle.wire_text.proofs.head.read_head_line.Goals as goal

pub returns-in-empty : goal.returns-in-empty
returns-in-empty c =
    let n = count_is c.as_slice.result.now c.in_ok-parts.parts.items (parted c.args.line.now) c.as_slice.ensures.value c.in_ok-parts.ensures in
    few_parts (parted c.args.line.now) (omega (arith, c.in-empty.len_below, n))
