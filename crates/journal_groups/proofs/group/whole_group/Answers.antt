use Rattle.std.proofs.Common.{sym, subst}
use Rattle.journal_groups.specs.declared.fault.GroupFault.{GroupFault}
use Rattle.journal_groups.specs.Reading.{group_at, FailsAt}
use Rattle.journal_groups.proofs.Inside.{inside_group, within_of, fails_at}
use Rattle.journal_groups.proofs.group.whole_group.Goals as goal

pub fault_at-requires-clause-within : goal.fault_at-requires-clause-within
fault_at-requires-clause-within c = within_of c.args.bytes.now (group_at c.args.number c.args.bytes.now) c.in-Err.fault (inside_group c.args.number c.args.bytes.now) c.in-Err.ensures.exact

pub returns-in-Err-clause-exact : goal.returns-in-Err-clause-exact
returns-in-Err-clause-exact c =
    subst (λ (f : GroupFault). FailsAt 0 c.args.bytes.now f (group_at c.args.number c.args.bytes.now)) (sym c.fault_at.ensures)
    (fails_at 0 c.args.bytes.now (group_at c.args.number c.args.bytes.now) c.in-Err.fault (inside_group c.args.number c.args.bytes.now) c.in-Err.ensures.exact)
