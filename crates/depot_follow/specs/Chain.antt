-- What a following promises: a node, with files of its own, takes all that an upstream has (Server Administrator Guide, "Replication"; the words, the lines and
-- the order in which the causes are decided are this project's own choice).
use Rattle.std.specs.Prelude.{◌≡◌, ◌⊎◌, ◌≤◌, ◌<◌, ◌↔◌, ℕ, List, length}
use Rattle.outside_api.specs.Count.{HasRisen}
use Rattle.outside_api.specs.Says.{DiskSays, SinkSays}
use Rattle.recovery.specs.declared.fault.OpenFault.{OpenFault}
use Rattle.replica_chain.specs.declared.node.Node.{Node}
use Rattle.replica_chain.specs.declared.node.Pair.{Pair}
use Rattle.depot_follow.specs.Ends.{cause_by_upstream, status_of}
use Rattle.depot_follow.specs.Following.{FollowsFrom, GotLines}
use Rattle.depot_follow.specs.Lines.{chain_line}
use Rattle.depot_follow.specs.Opening.{IsNotOpened, IsOpenedFrom, PairRose}
use Rattle.depot_follow.specs.declared.ended.ChainCause.TheVariants as causes
use Rattle.depot_follow.specs.declared.ended.ChainEnded.{ChainEnded}

-- the upstream's disks, the node's, and `out` when a following begins
pub record Before (D K : Type 0) : Type 0 where
  pub up : Pair D
  pub node : Pair D
  pub out : K

-- `out` when it has ended, and its end, which has the disks
pub record After (D K : Type 0) : Type 0 where
  pub out : K
  pub ended : ChainEnded D

module _ {D K : Type 0} (disk_says : DiskSays D) (sink_says : SinkSays K) (words : List (List ℕ)) (before : Before D K) (after : After D K) where
  -- a count of the four disks or of `out` has risen
  abbrev pub SomeRose : Type 0
  SomeRose = PairRose disk_says before.up after.ended.up ⊎ (PairRose disk_says before.node after.ended.node ⊎ HasRisen (sink_says.faults before.out) (sink_says.faults after.out))

  -- `out` got the line of the cause
  abbrev pub IsTold : Type 0
  IsTold = GotLines sink_says before.out after.out (chain_line after.ended.cause)

  -- A word stands behind `follow`: no disk is touched.
  pub record IsRefused : Type 0 where
    pub more : 1 < length words
    pub cause_is : after.ended.cause ≡ causes.Usage
    pub line : IsTold
    pub up_is : after.ended.up ≡ before.up
    pub node_is : after.ended.node ≡ before.node

  -- The upstream's files weren't opened, for this fault, which tells the cause. The node's disks aren't touched.
  pub record IsShut : Type 0 where
    pub alone : length words ≤ 1
    pub fault : OpenFault
    pub cause_is : after.ended.cause ≡ cause_by_upstream fault
    pub line : IsTold
    pub up : IsNotOpened disk_says before.up fault after.ended.up
    pub node_is : after.ended.node ≡ before.node

  -- It was opened, and followed from the node's files.
  pub record IsFollowed : Type 0 where
    pub alone : length words ≤ 1
    pub up : Node D
    pub opened : IsOpenedFrom disk_says before.up up
    pub follows : FollowsFrom disk_says sink_says up before.node before.out after.out after.ended

  pub record Chains : Type 0 where
    pub ends : IsRefused ⊎ (IsShut ⊎ IsFollowed)
    pub status : after.ended.status ≡ status_of after.ended.cause
    -- Usage comes exactly where a word stands behind `follow`.
    pub usage : (after.ended.cause ≡ causes.Usage) ↔ (1 < length words)
    -- A fault comes only where a count of faults rose.
    pub fault : after.ended.cause ≡ causes.Fault → SomeRose
