use Rattle.std.proofs.Common.{sym, zero-le}
use Rattle.wire_text.proofs.Separators.{upto_at, found_past, found_in, free_from, not_in, upto_none, past_none}
use Rattle.wire_text.proofs.parts.cut_at.Goals as goal

pub returns-in-Some-clause-before : goal.returns-in-Some-clause-before
returns-in-Some-clause-before c =
    let e = c.in-Some.ensures in
    sym (upto_at c.args.separator c.args.text.now c.in-Some.at e.0.high (λ j lt. e.0.before j zero-le lt) e.1)

pub returns-in-Some-clause-behind : goal.returns-in-Some-clause-behind
returns-in-Some-clause-behind c =
    let e = c.in-Some.ensures in
    found_past c.args.separator c.args.text.now c.in-Some.at e.0.high (λ j lt. e.0.before j zero-le lt) e.1

pub returns-in-Some-clause-found : goal.returns-in-Some-clause-found
returns-in-Some-clause-found c =
    let e = c.in-Some.ensures in
    found_in c.args.separator c.args.text.now c.in-Some.at e.0.high (λ j lt. e.0.before j zero-le lt) e.1

pub returns-in-None-clause-none : goal.returns-in-None-clause-none
returns-in-None-clause-none c =
    not_in c.args.separator c.args.text.now (free_from c.args.separator c.args.text.now (λ j lt. c.in-None.ensures j zero-le lt))

pub returns-in-None-clause-free : goal.returns-in-None-clause-free
returns-in-None-clause-free c = free_from c.args.separator c.args.text.now (λ j lt. c.in-None.ensures j zero-le lt)

pub returns-in-None-clause-whole : goal.returns-in-None-clause-whole
returns-in-None-clause-whole c = upto_none c.args.separator c.args.text.now (free_from c.args.separator c.args.text.now (λ j lt. c.in-None.ensures j zero-le lt))

pub returns-in-None-clause-nothing : goal.returns-in-None-clause-nothing
returns-in-None-clause-nothing c = past_none c.args.separator c.args.text.now (free_from c.args.separator c.args.text.now (λ j lt. c.in-None.ensures j zero-le lt))
