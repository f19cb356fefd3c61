use Rattle.std.proofs.Common.{arith, zero-le}
use Rattle.wire_text.proofs.Takings.{moves_none, moves_on, stops_then, line_part, line_whole, line_long}
use Rattle.wire_text.proofs.lines.read_line.Goals as goal

pub loop-line-init : goal.loop-line-init
loop-line-init g c =
    rw c.new-line.ensures.items (record {
      moves = moves_none (g.S.Source.says.left c.args.source.now) c.args.intake.now c.requires;
      free = tt;
      short = zero-le;
      counts = omega arith;
    })

pub returns-then-len-gt-MAX_LINE-clause-line : goal.returns-then-len-gt-MAX_LINE-clause-line
returns-then-len-gt-MAX_LINE-clause-line g c =
    let t = c.in_ok-is_whole.ensures.line in
    line_long _ _ _ _ _ c.loop-line.line.items t.0 _ c.loop-line.invariant.moves c.loop-line.invariant.free t.1 c.in_ok-is_whole.ensures.most c.in_ok-is_whole.is_whole (omega arith) t.2

pub returns-then-is_whole-clause-line : goal.returns-then-is_whole-clause-line
returns-then-is_whole-clause-line g c =
    let t = c.in_ok-is_whole.ensures.line in
    let w = line_whole _ _ _ _ _ c.loop-line.line.items t.0 _ c.loop-line.invariant.moves c.loop-line.invariant.free t.1 c.in_ok-is_whole.ensures.most c.in_ok-is_whole.is_whole c.if-is_whole.true t.2 in
    (w.0, omega arith, w.1)

pub returns-in-Some-clause-line : goal.returns-in-Some-clause-line
returns-in-Some-clause-line g c =
    let t = c.in_ok-is_whole.ensures.line in
    let w = line_part _ _ _ _ _ c.loop-line.line.items t.0 _ c.loop-line.invariant.moves c.loop-line.invariant.free t.1 c.in_ok-is_whole.ensures.most c.in_ok-is_whole.is_whole c.if-is_whole.false t.2 in
    (c.move_line.new.line.items, w.0, omega arith, stops_then _ _ _ _ _ _ _ _ _ _ _ c.loop-line.invariant.counts w.2 c.in-Some.ensures.stops)

pub loop-line-preserved : goal.loop-line-preserved
loop-line-preserved g c =
    let t = c.in_ok-is_whole.ensures.line in
    let w = line_part _ _ _ _ _ c.loop-line.line.items t.0 _ c.loop-line.invariant.moves c.loop-line.invariant.free t.1 c.in_ok-is_whole.ensures.most c.in_ok-is_whole.is_whole c.if-is_whole.false t.2 in
    record {
      moves = moves_on _ _ _ _ _ _ _ w.2 c.in_default.ensures.more;
      free = w.0;
      short = omega arith;
      counts = omega (arith, c.loop-line.invariant.counts, c.in_default.ensures.counts);
    }
