pub mod Count
pub mod Told
pub mod Disk
pub mod Says
pub mod Moments
pub mod Steps
pub mod Link
pub mod Reaching
