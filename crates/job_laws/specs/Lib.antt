pub mod Renumbering
pub mod Showing
