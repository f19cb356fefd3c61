-- The place of the first `+` is the length of what stands before it.
use Rattle.std.proofs.Common.{◌≡◌, ℕ, ◌≤◌, nat_lt, Bool, true, false, cond, List, length, Some, None, arith}
use Rattle.std.specs.Prelude.{◌==◌, not, position}
use Rattle.std.specs.List.{prefix_len}
use Rattle.std.proofs.lemmas.Bool.Decides.{nat_tests}
use Rattle.std.proofs.lemmas.List.Sums.{prefix_len-le-length}

found_by : (b : Bool) (n m : ℕ) → Some n ≡ cond b (Some m) None → n ≡ m
found_by true n m e = cc
found_by false n m e = absurd cc

not_by : (b : Bool) (m : ℕ) → None ≡ cond b (Some m) None → b ≡ false
not_by true m e = absurd cc
not_by false m e = cc

pub found : (text : List ℕ) (n : ℕ) → Some n ≡ position (λ b. b == 43) text → n ≡ prefix_len (λ b. not (b == 43)) text
found text n e = found_by (nat_lt (prefix_len (λ b. not (b == 43)) text) (length text)) n (prefix_len (λ b. not (b == 43)) text) e

at_end : (m l : ℕ) → m ≤ l → nat_lt m l ≡ false → l ≡ m
at_end m l h e = grind (arith, nat_tests)

pub whole : (text : List ℕ) → None ≡ position (λ b. b == 43) text → length text ≡ prefix_len (λ b. not (b == 43)) text
whole text e =
    at_end (prefix_len (λ b. not (b == 43)) text) (length text) (prefix_len-le-length (λ b. not (b == 43)) text)
    (not_by (nat_lt (prefix_len (λ b. not (b == 43)) text) (length text)) (prefix_len (λ b. not (b == 43)) text) e)
