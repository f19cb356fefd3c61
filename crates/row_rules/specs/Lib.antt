pub mod Fixing
pub mod Kept
pub mod Stored
pub mod Tests
