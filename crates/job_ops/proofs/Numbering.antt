-- Numbers of jobs, and the names that they make.
use Rattle.std.proofs.Common.{◌≡◌, ◌≤◌, ◌<◌, ◌+◌, ℕ, Bool, true, false, List, [], drop, Some, None, refl, sym, ap, ◌∙◌, arith}
use Rattle.std.specs.Prelude.{codes, min, nat_le, unwrap_or, if◌then◌else◌}
use Rattle.std.proofs.lemmas.Bool.Decides.{nat_tests}
use Rattle.std.proofs.lemmas.List.{drop_all}
use Rattle.depot_rows.specs.depot_path.Digits.{up_to}
use Rattle.depot_rows.specs.depot_model.Deeds.{Deed}
use Rattle.depot_rows.specs.depot_model.Fixes.{job_name, last_job}
use Rattle.depot_rows.specs.depot_model.Steps.Jobs.{is_new, saved_name}

below : (x : ℕ) → nat_le x 999999 ≡ true → x ≡ min 999999 x
below x e = grind (arith, nat_tests)

above : (x : ℕ) → nat_le x 999999 ≡ false → 999999 ≡ min 999999 x
above x e = grind (arith, nat_tests)

-- a number up to a limit, or else the limit
pub at_most : (x : ℕ) → unwrap_or (up_to 999999 x) 999999 ≡ min 999999 x
at_most x = go (nat_le x 999999) refl
  where
    go : (b : Bool) → nat_le x 999999 ≡ b → unwrap_or (if b then Some x else None) 999999 ≡ min 999999 x
    go true small = below x small
    go false large = above x large

-- no zero stands before six digits
pub no_zeros : (n : ℕ) → 6 ≤ n → [] ≡ drop n (codes "000000")
no_zeros n e = sym (drop_all n (codes "000000") (omega arith))

-- the greatest number, where there is room for another, and where there is none
pub has_room : (m last : ℕ) → last ≡ min 999999 m → last < 999999 → last ≡ m
has_room m last e room = omega arith

pub is_last : (m last : ℕ) → last ≡ min 999999 m → 999999 ≤ last → nat_le 999999 m ≡ true
is_last m last e full = grind (arith, nat_tests)

pub is_next : (m last : ℕ) → last ≡ m → last < 999999 → nat_le 999999 m ≡ false
is_next m last is room = grind (arith, nat_tests)

-- the name under which a job is saved
pub new_name : (d : List Deed) (name : List ℕ) (last : ℕ) → is_new name ≡ true → last ≡ last_job d → job_name (last + 1) ≡ saved_name d name
new_name d name last new is = ap (λ (n : ℕ). job_name (n + 1)) is ∙ sym (ap (λ b. if b then job_name (last_job d + 1) else name) new)

pub old_name : (d : List Deed) (name : List ℕ) → is_new name ≡ false → name ≡ saved_name d name
old_name d name old = sym (ap (λ b. if b then job_name (last_job d + 1) else name) old)
