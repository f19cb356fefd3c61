pub mod Changed
pub mod Whole
