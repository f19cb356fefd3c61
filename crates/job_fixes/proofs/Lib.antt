mod FixNames
mod FixRows
pub mod Steps
pub mod Telling
