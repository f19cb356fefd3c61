pub mod Pieces
pub mod Separators
pub mod Takings
pub mod WordLists
pub mod Says
pub mod Heads
pub mod Arms
pub mod Scripts
pub mod Short
pub mod Items
mod Examples
pub mod Values
