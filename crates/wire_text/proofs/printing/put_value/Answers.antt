use Rattle.wire_text.proofs.Values.{value_more, value_last, by_none}
use Rattle.wire_text.proofs.printing.put_value.Goals as goal

pub loop-line-preserved : goal.loop-line-preserved
loop-line-preserved c =
    value_more c.loop-line.out c.append.new.self c.append-in-Some.new.self c.args.out.now c.args.value.now c.loop-line.rest.now c.in-Some.line.now c.in-Some.after.now
    c.loop-line.invariant c.in_ok-append.ensures.ok c.in_ok-append-2.ensures.ok c.in-Some.ensures.before c.in-Some.ensures.behind c.in-Some.ensures.found

pub returns : goal.returns
returns c =
    value_last c.loop-line.out c.append-2.new.self c.args.out.now c.args.value.now c.loop-line.rest.now c.loop-line.invariant c.in_ok-append-3.ensures.ok
    (by_none c.cut_at.result c.in_default.not-Some c.cut_at.ensures.free)
