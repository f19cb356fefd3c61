pub mod Counters
pub mod Saving
