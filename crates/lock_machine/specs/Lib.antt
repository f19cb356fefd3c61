pub mod Machine
pub mod Orderly
pub mod Turns
pub mod Proper
pub mod Runs
pub mod Draws
