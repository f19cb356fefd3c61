-- What the calls of a disk make of its files, and what a stop may leave of them.
use Rattle.std.specs.Prelude.{◌≡◌, ℕ, ◌+◌, ◌-◌, ◌<◌, ◌≤◌, Bool, false, ◌&&◌, ◌||◌, ◌==◌, leb, ltb, List, [], ◌∷◌, length, take, get_or, min, max}
use Rattle.outside_api.specs.Disk.{Files}
use Rattle.memory_world.specs.Files.{put, written}
use Rattle.memory_world.specs.declared.call.Call.{Call}
use Rattle.memory_world.specs.declared.call.Call.TheVariants.{Look, Write, BrokenWrite, Cut, BrokenCut, Sync}

-- what a disk reads, and what of it a stop may leave otherwise
pub record State : Type 0 where
  pub files : Files
  -- what was read at the last sync that answered Ok
  pub synced : Files
  -- the least and the greatest length that each file had or passed through since then
  pub least : ℕ → ℕ
  pub greatest : ℕ → ℕ
  -- the places that were written since then, or that lay behind the end
  pub is_open : ℕ → ℕ → Bool

-- also so many places of a file
abbrev pub opened : ℕ → ℕ → ℕ → (ℕ → ℕ → Bool) → ℕ → ℕ → Bool
opened file at count is_open f k = ((f == file) && ((leb at k) && (ltb k (at + count)))) || is_open f k

-- all places behind a length
abbrev pub all_behind : ℕ → ℕ
all_behind length = 18446744073709551615 - length

-- these files, all of them as at the last sync
abbrev pub at_rest : Files → State
at_rest files = record { files = files; synced = files; least = λ f. length (files f); greatest = λ f. length (files f); is_open = λ f k. false }

-- after a write of so many bytes that failed
abbrev pub broken_write : ℕ → ℕ → ℕ → State → State
broken_write file at count s = record s { greatest = put file (max (s.greatest file) (at + count)) s.greatest; is_open = opened file at count s.is_open }

-- after a cut that failed
abbrev pub broken_cut : ℕ → ℕ → State → State
broken_cut file n s = record s { least = put file (min (s.least file) n) s.least; is_open = opened file n (all_behind n) s.is_open }

-- after one call
abbrev pub called : Call → State → State
called Look s = s
called (Write file at piece) s = record (broken_write file at (length piece.items) s) { files = put file (written at piece.items (s.files file)) s.files }
called (BrokenWrite file at count) s = broken_write file at count s
called (Cut file n) s = record (broken_cut file n s) { files = put file (take n (s.files file)) s.files }
called (BrokenCut file n) s = broken_cut file n s
called Sync s = at_rest s.files

-- after the calls, the first of them first
abbrev pub replay : List Call → State → State
replay [] s = s
replay (call ∷ calls) s = replay calls (called call s)

-- What a stop may leave: a length that the file had or passed through, and any bytes at the open places.
pub record IsImage (s : State) (c : Files) : Type 0 where
  pub no_shorter : (f : ℕ) → s.least f ≤ length (c f)
  pub no_longer : (f : ℕ) → length (c f) ≤ s.greatest f
  pub kept : (f k : ℕ) → k < length (c f) → s.is_open f k ≡ false → get_or (c f) k 0 ≡ get_or (s.synced f) k 0

-- what a stop may leave after some of the calls, at least t
pub record IsImageSince (files : Files) (calls : List Call) (t : ℕ) (c : Files) : Type 0 where
  pub moment : ℕ
  pub since : t ≤ moment
  pub until : moment ≤ length calls
  pub image : IsImage (replay (take moment calls) (at_rest files)) c

-- after each of the calls, what is read is what a stop may leave
pub record IsSound (start : Files) (calls : List Call) (files : Files) : Type 0 where
  pub now : (f : ℕ) → files f ≡ (replay calls (at_rest start)).files f
  pub each : (t : ℕ) → IsImage (replay (take t calls) (at_rest start)) (replay (take t calls) (at_rest start)).files
