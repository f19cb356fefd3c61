pub mod Families
pub mod Outcomes
