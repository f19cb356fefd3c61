-- The outside of a run, and what the run begins and ends with.
use Rattle.std.specs.Prelude.{ℕ}
use Rattle.outside_api.specs.Says.{DiskSays, DoorsSay, SinkSays, SourceSays}
use Rattle.p4_server.specs.declared.ended.Ended.{Ended}

-- What the disks say, the sources of the scripts, `out` and the sinks of the replies, and the doors; and which moments the clock may give.
pub record Outside (D S K H : Type 0) : Type 1 where
  pub disk : DiskSays D
  pub source : SourceSays S
  pub sink : SinkSays K
  pub doors : DoorsSay H
  pub may_give : ℕ → Type 0

-- the two disks and `out` when a run begins
pub record Before (D K : Type 0) : Type 0 where
  pub journal : D
  pub archive : D
  pub out : K

-- `out` when it has ended, and its end, which has the disks
pub record After (D S K : Type 0) : Type 0 where
  pub out : K
  pub ended : Ended D S K
