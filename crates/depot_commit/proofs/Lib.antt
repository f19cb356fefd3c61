pub mod Checkpointed
pub mod Growing
pub mod Differences
pub mod Laws
pub mod Staying
pub mod Contents
pub mod Stored
pub mod Places
pub mod Kept
pub mod Steps
pub mod Moved
pub mod Outcomes
mod Finished
pub mod Beside
mod Idle
mod Writings
