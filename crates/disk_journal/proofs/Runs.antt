-- Which files stay as they are over some calls.
use Rattle.std.proofs.Common.{◌≢◌, ℕ, ◌<◌, refl, ◌∙◌, List}
use Rattle.outside_api.specs.Disk.{Files, After, Follows, OnFile}
use Rattle.outside_api.specs.Moments.{Passes, LeavesOnly, started, goes_on, weaker, then}
use Rattle.outside_api.specs.Says.{DiskSays}
use Rattle.disk_journal.specs.Older.{SameBefore}

pub same_all : (below : ℕ) (c : Files) → SameBefore below c c
same_all below c = λ f some lt. refl

-- the file that a step changes is the root, or none of them
abbrev pub IsApart : ℕ → ℕ → Type 0
IsApart below file = (f : ℕ) → 0 < f → f < below → f ≢ file

module _ {D : Type 0} (disk_says : DiskSays D) (below : ℕ) where
  abbrev pub Keeps : D → D → Type 0
  Keeps old new = Follows (SameBefore below) (disk_says.may_leave old) (disk_says.may_leave new)

  abbrev pub KeepsAlways : D → D → Type 0
  KeepsAlways old new = LeavesOnly disk_says old new (After (SameBefore below) (disk_says.may_leave old))

  pub kept_none : (old : D) → Keeps old old
  kept_none old = λ c left. (c, left, same_all below c)

  pub always_none : (old : D) → ((c : Files) → disk_says.left_since old (disk_says.moment old) c → disk_says.may_leave old c) → KeepsAlways old old
  always_none old only_now = started disk_says old (After (SameBefore below) (disk_says.may_leave old)) (λ c left. kept_none old c (only_now c left))

  module _ (file : ℕ) (step : List ℕ → List ℕ → Type 0) (apart : IsApart below file) where
    kept_after : (old : D) (c : Files) → After (OnFile file step) (disk_says.may_leave old) c → After (SameBefore below) (disk_says.may_leave old) c
    kept_after old c after = (after.0, after.1, λ f some lt. after.2.others f (apart f some lt))

    pub kept_one : (old new : D) → Follows (OnFile file step) (disk_says.may_leave old) (disk_says.may_leave new) → Keeps old new
    kept_one old new follows = λ c left. kept_after old c (follows c left)

    -- one call
    pub always_call : (old new : D) → ((c : Files) → disk_says.left_since old (disk_says.moment old) c → disk_says.may_leave old c) → Passes disk_says old new → Follows (OnFile file step) (disk_says.may_leave old) (disk_says.may_leave new) → KeepsAlways old new
    always_call old new only_now time follows =
        goes_on disk_says old old new (After (SameBefore below) (disk_says.may_leave old)) (always_none old only_now) time (kept_one old new follows)

    -- a run that changes one file
    pub always_one : (old new : D) → LeavesOnly disk_says old new (After (OnFile file step) (disk_says.may_leave old)) → KeepsAlways old new
    always_one old new run = weaker disk_says old new (After (OnFile file step) (disk_says.may_leave old)) (After (SameBefore below) (disk_says.may_leave old)) (kept_after old) run

  kept_more : (old mid : D) → Keeps old mid → (c : Files) → After (SameBefore below) (disk_says.may_leave mid) c → After (SameBefore below) (disk_says.may_leave old) c
  kept_more old mid first c after = let one = first after.0 after.1 in (one.0, one.1, λ f some lt. after.2 f some lt ∙ one.2 f some lt)

  pub kept_two : (old mid new : D) → Keeps old mid → Keeps mid new → Keeps old new
  kept_two old mid new first second = λ c left. kept_more old mid first c (second c left)

  pub always_two : (old mid new : D) → Keeps old mid → KeepsAlways old mid → KeepsAlways mid new → KeepsAlways old new
  always_two old mid new kept first second =
      then disk_says old mid new (After (SameBefore below) (disk_says.may_leave old)) first (weaker disk_says mid new (After (SameBefore below) (disk_says.may_leave mid)) (After (SameBefore below) (disk_says.may_leave old)) (kept_more old mid kept) second)
