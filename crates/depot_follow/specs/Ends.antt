-- How a following ends, by what its parts answered (the words and the statuses are this project's own choice).
use Rattle.std.specs.Prelude.{◌≡◌, ℕ}
use Rattle.recovery.specs.declared.fault.OpenFault.{OpenFault}
use Rattle.recovery.specs.declared.fault.OpenFault.TheVariants.{Unmade, Damaged, DiskFault, Memory}
use Rattle.replica_chain.specs.declared.fault.NodeFault.{NodeFault}
use Rattle.replica_chain.specs.declared.fault.NodeFault.TheVariants as faults
use Rattle.depot_follow.specs.declared.ended.ChainCause.{ChainCause}
use Rattle.depot_follow.specs.declared.ended.ChainCause.TheVariants as causes
use Rattle.depot_follow.specs.declared.ended.ChainEnded.{ChainEnded}
use Rattle.replica_chain.specs.declared.node.Pair.{Pair}

abbrev pub status_of : ChainCause → ℕ
status_of causes.Done = 0
status_of causes.Usage = 1
status_of (causes.Shut fault) = 2
status_of (causes.NodeShut fault) = 2
status_of (causes.Apart departure) = 2
status_of (causes.Bad place) = 2
status_of causes.Incomplete = 2
status_of causes.Fault = 4
status_of causes.Memory = 5

-- the end by a cause, which leaves these disks
pub record IsEndedBy {D : Type 0} (ended : ChainEnded D) (cause : ChainCause) (up node : Pair D) : Type 0 where
  pub status : ended.status ≡ status_of cause
  pub cause_is : ended.cause ≡ cause
  pub up_is : ended.up ≡ up
  pub node_is : ended.node ≡ node

-- the cause of an end whose upstream wasn't opened
abbrev pub cause_by_upstream : OpenFault → ChainCause
cause_by_upstream Unmade = causes.Shut Unmade
cause_by_upstream (Damaged disk file place) = causes.Shut (Damaged disk file place)
cause_by_upstream DiskFault = causes.Fault
cause_by_upstream Memory = causes.Memory

-- the cause of an end whose node wasn't opened
abbrev pub cause_by_node : OpenFault → ChainCause
cause_by_node Unmade = causes.Memory
cause_by_node (Damaged disk file place) = causes.NodeShut (Damaged disk file place)
cause_by_node DiskFault = causes.Fault
cause_by_node Memory = causes.Memory

-- the cause of an end whose node took nothing more
abbrev pub cause_by_pull : NodeFault → ChainCause
cause_by_pull faults.LinkFault = causes.Fault
cause_by_pull faults.ContentsFailed = causes.Fault
cause_by_pull faults.DiskFault = causes.Fault
cause_by_pull (faults.BadFeed place) = causes.Bad place
cause_by_pull (faults.BadContent place) = causes.Bad place
cause_by_pull (faults.NoBytes place) = causes.Bad place
cause_by_pull faults.NoGeneration = causes.Memory
cause_by_pull faults.Memory = causes.Memory
