pub mod Submits
pub mod Named
pub mod Closing
pub mod Putting
pub mod Fixes
pub mod Jobs
pub mod Renumbered
pub mod Showing
