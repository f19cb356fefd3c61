pub mod Counts
pub mod Fresh
pub mod Making
pub mod Naming
pub mod Outputs
pub mod Replicas
pub mod Slots
-- what stands below, for the crates above
pub use Rattle.replica_turns.proofs as replica_turns
pub use Rattle.replica_turns.proofs.depot_commit as depot_commit
