pub mod Along
pub mod Going
pub mod Master
pub mod Position
pub mod Replying
pub mod Turning
pub mod Written
-- what stands below, for the crates above
pub use Rattle.serial_depot.specs as serial_depot
pub use Rattle.depot_commit.specs as depot_commit
pub use Rattle.depot_commit.specs.command_core as command_core
