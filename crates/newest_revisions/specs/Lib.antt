pub mod Seen
pub mod Newest
