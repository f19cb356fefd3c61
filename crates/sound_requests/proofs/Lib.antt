pub mod Whole
pub mod All
