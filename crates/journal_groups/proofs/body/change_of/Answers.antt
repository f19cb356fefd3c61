use Rattle.std.proofs.Common.{subst}
use Rattle.record_text.specs.declared.fault.RecordFault.{RecordFault}
use Rattle.record_text.specs.Answers.{Fails}
use Rattle.record_text.specs.Grammar.{record_at}
use Rattle.journal_groups.proofs.Bodies.{window_wrong, window_one}
use Rattle.journal_groups.proofs.body.change_of.Goals as goal

pub returns-in-Ok-clause-exact : goal.returns-in-Ok-clause-exact
returns-in-Ok-clause-exact c = (window_one c.args.size c.args.bytes.now c.window_of-window.result.now c.in-Ok.op c.in-Ok.row c.in-Ok.length c.window_of-window.ensures c.in-Ok.ensures.found.0 c.in-Ok.ensures.found.1 c.in-Ok.ensures.found.2).0

pub returns-in-Ok-clause-within : goal.returns-in-Ok-clause-within
returns-in-Ok-clause-within c =
    let w = window_one c.args.size c.args.bytes.now c.window_of-window.result.now c.in-Ok.op c.in-Ok.row c.in-Ok.length c.window_of-window.ensures c.in-Ok.ensures.found.0 c.in-Ok.ensures.found.1 c.in-Ok.ensures.found.2 in
    (w.1, w.2, w.3)

pub returns-in-Err-Wrong-clause-exact : goal.returns-in-Err-Wrong-clause-exact
returns-in-Err-Wrong-clause-exact c = window_wrong c.args.size c.args.bytes.now c.window_of-window.result.now c.in-Err-Wrong.field-0-0 c.in-Err-Wrong.left c.window_of-window.ensures (subst (λ (f : RecordFault). Fails f (record_at c.window_of-window.result.now)) c.in-Err-Wrong.field-0-is c.in-Err-Wrong.ensures.exact)
