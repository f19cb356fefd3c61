pub mod Plain
pub mod Writing
pub mod Whole
