pub mod Steps
pub mod Example
