pub mod Entries
pub mod Parties
pub mod Replicas
pub mod Rooms
pub mod Words
-- what stands below, for the crates above
pub use Rattle.run_parties.specs as run_parties
pub use Rattle.run_parties.specs.replica_turns as replica_turns
pub use Rattle.run_parties.specs.depot_commit as depot_commit
pub use Rattle.run_parties.specs.serial_depot as serial_depot
