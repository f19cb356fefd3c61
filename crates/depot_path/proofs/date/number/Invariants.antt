use Rattle.std.proofs.Common.{◌≡◌, ◌≤◌, ℕ, take}
use Rattle.depot_path.specs.Digits.{number_of}
use Rattle.depot_path.proofs.date.number.Given as goal

pub record IsSmall (index number : ℕ) : Type 0 where
  pub none : index ≤ 0 → number ≤ 0
  pub one : index ≤ 1 → number ≤ 207
  pub two : index ≤ 2 → number ≤ 2277
  pub three : index ≤ 3 → number ≤ 22977
  pub four : index ≤ 4 → number ≤ 229977

abbrev pub invariant-loop-digit : goal.invariant-loop-digit
invariant-loop-digit l = (l.number ≡ number_of (take l.digit-index l.digits)) × IsSmall l.digit-index l.number
