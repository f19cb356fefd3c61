pub mod Parts
pub mod Combining
pub mod Staying
pub mod Saving
pub mod Whole
pub mod Placing
