use Rattle.std.proofs.lemmas.Result.{err_from_is_err_and}
use Rattle.journal_groups.proofs.Whole.{more_none, more_then, all_fails}
use Rattle.journal_groups.proofs.body.Body.read_all.Goals as goal

pub loop-self-init : goal.loop-self-init
loop-self-init c = more_none c.args.bytes.now c.args.self.now c.requires

pub loop-self-preserved : goal.loop-self-preserved
loop-self-preserved c = more_then c.args.bytes.now c.args.self.now c.loop-self.self c.read_change.new.self c.loop-self.invariant c.in_ok-read_change.ensures.1

pub returns-in_err-read_change : goal.returns-in_err-read_change
returns-in_err-read_change c =
    let p = err_from_is_err_and c.from_residual.result c.from_residual.ensures.1 in
    rw (p.1, p.2) (all_fails c.args.bytes.now c.args.self.now c.loop-self.self c.read_change.new.self c.in_err-read_change.field-0.0 c.loop-self-test.true c.loop-self.invariant c.in_err-read_change.ensures)
