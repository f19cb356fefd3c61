-- What the calls of a disk do to its files, and what a crash may do between two syncs.
use Rattle.std.specs.Prelude.{◌<◌, ◌≡◌, ◌≢◌, ◌⊎◌, ℕ, ◌+◌, ◌≤◌, min, max, List, ◌++◌, length, take, drop}

-- the bytes of each file, by its number
abbrev pub Files : Type 0
Files = ℕ → List ℕ

-- old with these bytes at this place
abbrev pub Holds : ℕ → List ℕ → List ℕ → List ℕ → Type 0
Holds at bytes old new = new ≡ take at old ++ bytes ++ drop (at + length bytes) old

-- From an image before a write of n bytes to one after it: any bytes in the range and past the old end, the same
-- elsewhere. An earlier write may be missing from the image, which then ends before this one's place.
pub record Torn (at n : ℕ) (old new : List ℕ) : Type 0 where
  pub before : take (min at (length old)) new ≡ take at old
  pub after : drop (at + n) new ≡ drop (at + n) old
  pub no_shorter : length old ≤ length new
  pub no_longer : length new ≤ max (length old) (at + n)

-- from an image before a cut to one after it: some length between, and any bytes past the cut
pub record Cut (n : ℕ) (old new : List ℕ) : Type 0 where
  pub no_shorter : min n (length old) ≤ length new
  pub no_longer : length new ≤ length old
  pub front : take n new ≡ take n (take (length new) old)

-- one file changes so, and the others stay
pub record OnFile (file : ℕ) (step : List ℕ → List ℕ → Type 0) (old new : Files) : Type 0 where
  pub this : step (old file) (new file)
  pub others : (f : ℕ) → f ≢ file → new f ≡ old f

-- an old one after a step
abbrev pub After : (Files → Files → Type 0) → (Files → Type 0) → Files → Type 0
After step old c = (d : Files) × old d × step d c

-- each new one is an old one after a step
abbrev pub Follows : (Files → Files → Type 0) → (Files → Type 0) → (Files → Type 0) → Type 0
Follows step old new = (c : Files) → new c → After step old c

-- each new one is an old one
abbrev pub NoMore : (Files → Type 0) → (Files → Type 0) → Type 0
NoMore old new = (c : Files) → new c → old c

-- a disk that told what it reads still tells it
abbrev pub StillTells : (Files → Type 0) → (Files → Type 0) → Type 0
StillTells old new = (d : Files) → old d → (c : Files) × new c

-- the files are the same
pub record Same (old new : Files → Type 0) : Type 0 where
  pub kept : (c : Files) → old c → new c
  pub no_more : NoMore old new

-- a step leads from each old one to a new one, and to no other
pub record Leads (step : Files → Files → Type 0) (old new : Files → Type 0) : Type 0 where
  pub to : (d : Files) → old d → (c : Files) × new c × step d c
  pub from : Follows step old new

-- Time goes on: a crash since t may have left what it may have left before, or what it may leave now.
pub record Elapses (before now : ℕ) (past since : ℕ → Files → Type 0) (may_leave : Files → Type 0) : Type 0 where
  pub later : before ≤ now
  pub nothing_else : (t : ℕ) (c : Files) → t ≤ before → since t c → past t c ⊎ may_leave c
  pub keeps : (t : ℕ) (c : Files) → t ≤ before → past t c → since t c

-- what a read of n bytes gives: the bytes of the file from `at`, at the front of the buffer
pub record Reads (file : List ℕ) (at : ℕ) (old : List ℕ) (n : ℕ) (new : List ℕ) : Type 0 where
  pub fits : n ≤ length old
  pub bytes : take n new ≡ take n (drop at file)
  pub there : n ≤ length (drop at file)
  pub rest : drop n new ≡ drop n old
  pub some : 0 < length old → at < length file → 0 < n
