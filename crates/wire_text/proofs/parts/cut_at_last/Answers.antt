use Rattle.std.proofs.Common.{zero-le}
use Rattle.wire_text.proofs.Separators.{last_at, last_none, free_from}
use Rattle.wire_text.proofs.parts.cut_at_last.Goals as goal

pub returns-in-Some-clause-cut : goal.returns-in-Some-clause-cut
returns-in-Some-clause-cut c =
    let e = c.in-Some.ensures in
    last_at c.args.separator c.args.text.now c.in-Some.at e.0.high (λ j low lt. e.0.after j low lt) e.1

pub returns-in-None-clause-none : goal.returns-in-None-clause-none
returns-in-None-clause-none c =
    last_none c.args.separator c.args.text.now (free_from c.args.separator c.args.text.now (λ j lt. c.in-None.ensures j zero-le lt))
