-- A count of faults or of calls, and which answers a fault is the cause of.
use Rattle.std.specs.Prelude.{◌≤◌, ◌+◌, ℕ, min, Result, OnErr}

-- a count after n more; it stays at its last value, 2 ^ 64 - 1
abbrev pub counted : ℕ → ℕ → ℕ
counted n before = min (before + n) 18446744073709551615

-- The count has risen. It counts as risen where it stands at its last value.
abbrev pub HasRisen : ℕ → ℕ → Type 0
HasRisen before now = counted 1 before ≤ now

-- the count doesn't fall, and an error is answered only where it has risen
pub record HasCause {T E : Type 0} (before now : ℕ) (result : Result T E) : Type 0 where
  pub never_falls : before ≤ now
  pub risen : OnErr result (HasRisen before now)
