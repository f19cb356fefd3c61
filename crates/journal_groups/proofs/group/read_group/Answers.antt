use Rattle.journal_groups.proofs.Clauses.{found_is, only_is, short_is, goes_is, bad_is}
use Rattle.journal_groups.proofs.group.read_group.Goals as goal

pub returns-clause-found : goal.returns-clause-found
returns-clause-found c = found_is c.args.bytes.now c.args.number c.whole_group.result c.whole_group.ensures.exact c.whole_group.ensures.within

pub returns-clause-only : goal.returns-clause-only
returns-clause-only c = λ changes rest is same. only_is c.args.bytes.now c.args.number c.whole_group.result changes rest c.whole_group.ensures.exact c.whole_group.ensures.within is same

pub returns-clause-short : goal.returns-clause-short
returns-clause-short c = short_is c.args.bytes.now c.args.number c.whole_group.result c.ranges.number.fits c.whole_group.ensures.exact

pub returns-clause-goes : goal.returns-clause-goes
returns-clause-goes c = λ g. goes_is c.args.bytes.now c.args.number c.whole_group.result c.ranges.number.fits c.whole_group.ensures.exact g

pub returns-clause-bad : goal.returns-clause-bad
returns-clause-bad c = bad_is c.args.bytes.now c.args.number c.whole_group.result c.ranges.number.fits c.whole_group.ensures.exact
