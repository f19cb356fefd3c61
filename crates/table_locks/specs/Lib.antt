pub mod Ways
pub mod Gathered
pub mod Confirmed
pub mod Prepared
