use Rattle.std.proofs.lemmas.Result.{err_from_is_err_and}
use Rattle.journal_groups.proofs.Inside.{head_suffix}
use Rattle.journal_groups.proofs.Whole.{group_whole, group_fails}
use Rattle.journal_groups.proofs.group.group_of.Goals as goal

pub overflow_sub-body : goal.overflow_sub-body
overflow_sub-body c = (head_suffix c.args.number c.args.bytes.now c.in_ok-size.size c.in_ok-size.rest.now c.in_ok-size.ensures).0

pub returns-in_err-read_all-clause-exact : goal.returns-in_err-read_all-clause-exact
returns-in_err-read_all-clause-exact c =
    let p = err_from_is_err_and c.from_residual-in_err-read_all.result c.from_residual-in_err-read_all.ensures.1 in
    let back = (head_suffix c.args.number c.args.bytes.now c.in_ok-size.size c.in_ok-size.rest.now c.in_ok-size.ensures).1 in
    rw (p.1, p.2) (group_fails c.args.number c.args.bytes.now c.in_ok-size.rest.now c.new.result c.in_ok-size.size _ c.read_all.new.self c.in_err-read_all.field-0.0 c.in_ok-size.ensures back c.in_err-read_all.ensures)

pub returns-clause-exact : goal.returns-clause-exact
returns-clause-exact c =
    let back = (head_suffix c.args.number c.args.bytes.now c.in_ok-size.size c.in_ok-size.rest.now c.in_ok-size.ensures).1 in
    group_whole c.args.number c.args.bytes.now c.in_ok-size.rest.now c.new.result c.in_ok-size.size _ c.read_all.new.self c.new.ensures c.in_ok-size.ensures back c.in_ok-read_all.ensures.0 c.in_ok-read_all.ensures.1
