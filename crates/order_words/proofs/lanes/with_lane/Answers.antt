use Rattle.std.proofs.Common.{◌<◌, ◌==◌, ℕ, w32, ap, arith}
use borrow.Author.Tests.{eq-eqb}
use mir.Val.{bits}
use Rattle.std.proofs.lemmas.Nat.Bits.{bit_at_set_same, bit_at_set_other}
use Rattle.order_words.proofs.lanes.with_lane.Goals as goal

pub returns-clause-one : goal.returns-clause-one
returns-clause-one c = let within : c.args.lane < bits w32 = omega arith in eq-eqb _ 1 (bit_at_set_same w32 c.args.lanes c.args.lane within)

pub returns-clause-others : goal.returns-clause-others
returns-clause-others c = λ i other. let within : c.args.lane < bits w32 = omega arith in ap (λ (b : ℕ). b == 1) (bit_at_set_other w32 c.args.lanes c.args.lane within i other)
