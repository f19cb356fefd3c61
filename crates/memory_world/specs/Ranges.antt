-- Open places, as a disk keeps them and as a stop fills them.
use Rattle.std.specs.Prelude.{◌≡◌, ℕ, zero, suc, ◌+◌, ◌<◌, Bool, true, false, ◌&&◌, ◌||◌, ◌==◌, leb, ltb, List, [], ◌∷◌, Vec, length, get_or, if◌then◌else◌}
use Rattle.std.specs.declared.alloc.Global.{Global}
use Rattle.outside_api.specs.Disk.{Files}
use Rattle.memory_world.specs.Files.{contents}
use Rattle.memory_world.specs.Replay.{State}
use Rattle.memory_world.specs.declared.image.OpenRange.{OpenRange}

-- a place of a file is in one of the ranges
abbrev pub is_in : List OpenRange → ℕ → ℕ → Bool
is_in [] f k = false
is_in (range ∷ ranges) f k = ((f == range.file) && ((leb range.at k) && (ltb k (range.at + range.count)))) || is_in ranges f k

-- files and ranges that are those of a state
pub record Agrees (files : List (Vec ℕ Global)) (ranges : List OpenRange) (s : State) : Type 0 where
  pub same : (f : ℕ) → contents files f ≡ s.files f
  pub places : (f k : ℕ) → is_in ranges f k ≡ s.is_open f k

-- how many of the first k places are open
abbrev pub open_below : (ℕ → Bool) → ℕ → ℕ
open_below is_open zero = 0
open_below is_open (suc k) = if is_open k then suc (open_below is_open k) else open_below is_open k

-- how many places are open in all files of smaller numbers
abbrev pub open_before : (ℕ → ℕ → Bool) → Files → ℕ → ℕ
open_before is_open files zero = 0
open_before is_open files (suc f) = open_before is_open files f + open_below (is_open f) (length (files f))

-- Files whose open places have the bytes of `pick`, in order of file and place, and then 0.
pub record IsFilled (is_open : ℕ → ℕ → Bool) (pick : List ℕ) (old new : Files) : Type 0 where
  pub lengths : (f : ℕ) → length (new f) ≡ length (old f)
  pub kept : (f k : ℕ) → is_open f k ≡ false → get_or (new f) k 0 ≡ get_or (old f) k 0
  pub picked : (f k : ℕ) → k < length (old f) → is_open f k ≡ true → get_or (new f) k 0 ≡ get_or pick (open_before is_open old f + open_below (is_open f) k) 0
