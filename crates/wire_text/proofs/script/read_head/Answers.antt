use Rattle.std.proofs.Common.{sym, ap, ◌∙◌}
use Rattle.wire_text.specs.Head.{head_of}
use Rattle.wire_text.proofs.Scripts.{read_there, read_bad, read_long, read_stopped}
use Rattle.wire_text.proofs.script.read_head.Goals as goal

pub returns-in-Some-clause-head : goal.returns-in-Some-clause-head
returns-in-Some-clause-head g c =
    let k = rw c.in-Line.is at c.in_ok-line.ensures.line in
    read_there _ _ 0 0 c.args.intake.now _ c.in-Line.line.items c.requires k.0 c.in-Some.head k.1 (ap head_of (sym c.deref.ensures.value) ∙ (sym c.in_ok-head-in-Line.ensures ∙ c.in-Some.is)) k.2

pub returns-in-Line-clause-head : goal.returns-in-Line-clause-head
returns-in-Line-clause-head g c =
    let k = rw c.in-Line.is at c.in_ok-line.ensures.line in
    rw c.no_head.ensures
    (read_bad _ _ 0 0 c.args.intake.now c.read_line.new.intake c.in-Line.line.items c.requires k.0 k.1 (ap head_of (sym c.deref.ensures.value) ∙ (sym c.in_ok-head-in-Line.ensures ∙ c.in-None.is)) k.2)

pub returns-in-TooLong-clause-head : goal.returns-in-TooLong-clause-head
returns-in-TooLong-clause-head g c =
    let k = rw c.in-TooLong.is at c.in_ok-line.ensures.line in
    rw c.no_head-in-TooLong.ensures (read_long _ _ 0 0 c.args.intake.now c.read_line.new.intake k.0 c.requires k.2 k.1 k.3 k.4)

pub returns-clause-head : goal.returns-clause-head
returns-clause-head g c =
    let k = rw c.in-Stopped.is at c.in_ok-line.ensures.line in
    rw (c.stopped.ensures, c.place.ensures.place) (read_stopped _ _ _ _ c.args.intake.now _ k.0 c.requires k.1 c.in-Stopped.stop k.2 k.3)
