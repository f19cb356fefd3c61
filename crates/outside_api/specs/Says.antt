-- What each object of the outside says of itself, as one value.
use Rattle.std.specs.Prelude.{ℕ, List, Option}
use Rattle.outside_api.specs.Disk.{Files}

pub record DiskSays (D : Type 0) : Type 1 where
  -- the files as a read gives them: none where the disk doesn't tell, and one else
  pub seen : D → Files → Type 0
  -- what a crash at this moment may leave: the images
  pub may_leave : D → Files → Type 0
  -- the moment, as a number that doesn't fall
  pub moment : D → ℕ
  -- what a crash at some moment from that one on may have left, during a call or between two
  pub left_since : D → ℕ → Files → Type 0
  -- how often a call failed
  pub faults : D → ℕ
  -- how many calls it was asked; the count stays at its last value, 2 ^ 64 - 1
  pub calls : D → ℕ

pub record SourceSays (S : Type 0) : Type 1 where
  -- the bytes that it has left, where it tells them
  pub left : S → Option (List ℕ)
  -- how often it has failed
  pub faults : S → ℕ

pub record SinkSays (K : Type 0) : Type 1 where
  -- the bytes that it was given, where it tells them
  pub given : K → Option (List ℕ)
  -- how often it has failed
  pub faults : K → ℕ

pub record DoorsSay (H : Type 0) : Type 1 where
  -- the bytes that the source of a name that is left has, where they are told
  pub input : H → List ℕ → Option (List ℕ)
  -- the bytes that the sink of a name that is left has been given, where they are told
  pub output : H → List ℕ → Option (List ℕ)
  -- how often they have failed
  pub faults : H → ℕ

pub record LinkSays (L : Type 0) : Type 1 where
  -- its master's journal has these committed texts by now, one for each generation from 0 on; a link that doesn't tell its master has none
  pub tells : L → List (List ℕ) → Type 0
  -- how often it has failed
  pub faults : L → ℕ
  -- a call may leave it so
  pub keeps : L → L → Type 0

pub record ClockSays (C : Type 0) : Type 1 where
  -- it may give this moment
  pub may_give : C → ℕ → Type 0
