use Rattle.std.proofs.Common.{◌≡◌, ◌≤◌, drop, fold}
use Rattle.depot_path.specs.Digits.{with_digit, number_of}
use Rattle.depot_path.proofs.digits.value_up_to.Given as goal

abbrev pub invariant-loop-digit : goal.invariant-loop-digit
invariant-loop-digit l = (fold with_digit l.number (drop l.digit-index l.digits) ≡ number_of l.digits) × (l.number ≤ l.most)
