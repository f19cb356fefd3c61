pub mod Bare
pub mod Joined
mod Waiting
