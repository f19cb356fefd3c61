pub mod Asking
pub mod Giving
pub mod Replicas
pub mod Served
-- what stands below, for the crates above
pub use Rattle.replica_turns.specs as replica_turns
pub use Rattle.replica_turns.specs.command_core as command_core
pub use Rattle.replica_turns.specs.depot_commit as depot_commit
pub use Rattle.replica_turns.specs.serial_depot as serial_depot
