use Rattle.std.proofs.Common.{arith}
use Rattle.depot_path.proofs.Growing.{too_great}
use Rattle.depot_path.proofs.digits.value_up_to.Goals as goal

pub returns-in_default-clause-value : goal.returns-in_default-clause-value
returns-in_default-clause-value c = too_great c.args.most c.args.digits.now c.loop-digit.number c.loop-digit.digit-index (omega arith) c.loop-digit.invariant.0 c.in_default.ensures
