pub mod Deleting
pub mod Describing
pub mod Files
pub mod Listed
pub mod Lines
pub mod Numbers
pub mod Saving
pub mod Showing
