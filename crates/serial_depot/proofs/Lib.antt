pub mod Parts
pub mod Quiet
