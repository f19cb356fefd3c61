-- What a crash may leave while calls run, and how a run of them goes on.
use Rattle.std.specs.Prelude.{◌≤◌, ◌⊎◌}
use Rattle.std.proofs.Common.{inl, inr, ⊎_elim, ℕ, arith}
use Rattle.outside_api.specs.Disk.{Files, Elapses}
use Rattle.outside_api.specs.Says.{DiskSays}

-- a call has run
abbrev pub Passes : {D : Type 0} → DiskSays D → D → D → Type 0
Passes disk_says old new = Elapses (disk_says.moment old) (disk_says.moment new) (disk_says.left_since old) (disk_says.left_since new) (disk_says.may_leave new)

-- A crash at any moment since old leaves files that have P.
pub record LeavesOnly {D : Type 0} (disk_says : DiskSays D) (old new : D) (P : Files → Type 0) : Type 0 where
  pub later : disk_says.moment old ≤ disk_says.moment new
  pub each : (c : Files) → disk_says.left_since new (disk_says.moment old) c → P c
  -- for a run that began earlier
  pub before : (t : ℕ) (c : Files) → t ≤ disk_says.moment old → disk_says.left_since new t c → disk_says.left_since old t c ⊎ P c

module _ {D : Type 0} (disk_says : DiskSays D) where
  -- before the first call
  pub started : (old : D) (P : Files → Type 0) → ((c : Files) → disk_says.left_since old (disk_says.moment old) c → P c) → LeavesOnly disk_says old old P
  started old P here = record { later = omega arith; each = here; before = λ t c le left. inl left }

  -- one call more, after which a crash leaves what has P
  pub goes_on : (old mid new : D) (P : Files → Type 0) → LeavesOnly disk_says old mid P → Passes disk_says mid new → ((c : Files) → disk_says.may_leave new c → P c)
      → LeavesOnly disk_says old new P
  goes_on old mid new P so_far time here = record {
    later = omega (arith, so_far.later, time.later);
    each = λ c left. ⊎_elim (so_far.each c) (here c) (time.nothing_else (disk_says.moment old) c so_far.later left);
    before = λ t c le left. ⊎_elim (so_far.before t c le) (λ now. inr (here c now)) (time.nothing_else t c (omega (arith, le, so_far.later)) left);
  }

  -- two runs, one after the other
  pub then : (old mid new : D) (P : Files → Type 0) → LeavesOnly disk_says old mid P → LeavesOnly disk_says mid new P → LeavesOnly disk_says old new P
  then old mid new P first second = record {
    later = omega (arith, first.later, second.later);
    each = λ c left. ⊎_elim (first.each c) (λ has. has) (second.before (disk_says.moment old) c first.later left);
    before = λ t c le left. ⊎_elim (first.before t c le) (λ has. inr has) (second.before t c (omega (arith, le, first.later)) left);
  }

  -- what has P has Q
  pub weaker : (old new : D) (P Q : Files → Type 0) → ((c : Files) → P c → Q c) → LeavesOnly disk_says old new P → LeavesOnly disk_says old new Q
  weaker old new P Q leads run = record {
    later = run.later;
    each = λ c left. leads c (run.each c left);
    before = λ t c le left. ⊎_elim (λ was. inl was) (λ has. inr (leads c has)) (run.before t c le left);
  }
