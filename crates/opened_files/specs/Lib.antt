pub mod Adds
pub mod Locks
pub mod Moves
pub mod Opens
pub mod Partners
pub mod Reverts
pub mod Shown
pub mod Staying
