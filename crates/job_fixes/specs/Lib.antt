pub mod Fixes
pub mod Telling
