pub mod Rows
pub mod Combining
pub mod Reading
pub mod Saving
pub mod Opening
pub mod Submitting
pub mod Whole
