pub mod Walks
pub mod Lines
pub mod Placing
pub mod Exchange
pub mod BothWays
pub mod Found
pub mod Deciding
pub mod Start
pub mod Root
mod Rows
