use Rattle.std.proofs.Common.{◌-◌, ◌∙◌, take, length, length-append, length-take, ap, arith, zero-le, List, ℕ}
use Rattle.wire_text.proofs.Takings.{moves_none, moves_on, stops_then, bytes_move}
use Rattle.wire_text.proofs.blocks.read_bytes.Goals as goal

pub loop-bytes-init : goal.loop-bytes-init
loop-bytes-init g c =
    rw c.in_ok-bytes.ensures.items (record {
      moves = moves_none (g.S.Source.says.left c.args.source.now) c.args.intake.now c.requires;
      short = zero-le;
      counts = omega arith;
    })

pub returns-in-Some-clause-bytes : goal.returns-in-Some-clause-bytes
returns-in-Some-clause-bytes g c =
    let m = bytes_move _ _ _ _ _ c.loop-bytes.bytes.items _ _ c.loop-bytes.invariant.moves c.in_ok-move_bytes.ensures.bytes c.in_ok-move_bytes.ensures.held c.in_ok-move_bytes.ensures.place c.in_ok-move_bytes.ensures.most in
    let more = ap (λ (x : List ℕ). length x) c.in_ok-move_bytes.ensures.bytes ∙ length-append c.loop-bytes.bytes.items (take (c.args.count - c.len.result) c.loop-bytes.intake.held) in
    (c.move_bytes.new.bytes.items, omega (arith, more, length-take {A = ℕ}, c.if-len-count.false), stops_then _ _ _ _ _ _ _ _ _ _ _ c.loop-bytes.invariant.counts m c.in-Some.ensures.stops)

pub loop-bytes-preserved : goal.loop-bytes-preserved
loop-bytes-preserved g c =
    let m = bytes_move _ _ _ _ _ c.loop-bytes.bytes.items _ _ c.loop-bytes.invariant.moves c.in_ok-move_bytes.ensures.bytes c.in_ok-move_bytes.ensures.held c.in_ok-move_bytes.ensures.place c.in_ok-move_bytes.ensures.most in
    let more = ap (λ (x : List ℕ). length x) c.in_ok-move_bytes.ensures.bytes ∙ length-append c.loop-bytes.bytes.items (take (c.args.count - c.len.result) c.loop-bytes.intake.held) in
    record {
      moves = moves_on _ _ _ _ _ _ _ m c.in_default.ensures.more;
      short = omega (arith, more, length-take {A = ℕ});
      counts = omega (arith, c.loop-bytes.invariant.counts, c.in_default.ensures.counts);
    }
