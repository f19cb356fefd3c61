pub mod Barring
pub mod Openings
pub mod Plus
