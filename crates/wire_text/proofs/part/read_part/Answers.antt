use Rattle.std.proofs.Common.{◌≡◌, ◌+◌, ◌-◌, length, length-append, ◌∷◌, [], arith}
use Rattle.wire_text.proofs.Says.{part_then}
use Rattle.wire_text.proofs.Arms.{long_ends, line_stops}
use Rattle.wire_text.proofs.part.read_part.Goals as goal

pub returns-in_ok-part-in-Line-clause-part : goal.returns-in_ok-part-in-Line-clause-part
returns-in_ok-part-in-Line-clause-part g c =
    let k = rw c.in-Line.is at c.in_ok-line.ensures.line in
    let e : c.read_line.new.intake.place - (length c.in-Line.line.items + 1) ≡ c.args.intake.now.place = omega (arith, k.2.place, length-append c.in-Line.line.items (10 ∷ [])) in
    let part = rw (c.deref.ensures.value, e) at c.in_ok-part-in-Line.ensures.part in
    part_then _ _ _ _ _ _ _ _ _ _ _ _ c.in_ok-part-in-Line.part c.in_ok-line.ensures.counts k.2 part

pub returns-in-TooLong-clause-part : goal.returns-in-TooLong-clause-part
returns-in-TooLong-clause-part g c =
    let k = rw c.in-TooLong.is at c.in_ok-line.ensures.line in
    rw (c.fault.ensures, c.place-start.ensures.place)
    (long_ends c.args.client.now c.args.number c.args.input.now _ _ 0 0 c.args.intake.now c.read_line.new.intake k.0 k.2 k.1 k.3 k.4)

pub returns-in-Stopped-clause-part : goal.returns-in-Stopped-clause-part
returns-in-Stopped-clause-part g c =
    let k = rw c.in-Stopped.is at c.in_ok-line.ensures.line in
    rw (c.stopped.ensures, c.is_some.ensures, c.place-start.ensures.place, c.place.ensures.place)
    (line_stops c.args.client.now c.args.number c.args.input.now _ _ _ _ c.args.intake.now c.read_line.new.intake k.0 k.1 c.in-Stopped.stop c.args.input.now k.2 k.3)
