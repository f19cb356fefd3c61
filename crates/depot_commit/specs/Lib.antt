pub mod Committing
pub mod Fetching
pub mod Growing
pub mod Holding
pub mod Opening
pub mod Placing
pub mod Running
pub mod StoreLaws
pub mod Storing
pub mod Telling
pub mod Writing
-- what stands below, for the crates above
pub use Rattle.command_core.specs as command_core
