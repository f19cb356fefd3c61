pub mod Cut
pub mod Feed
pub mod Replica
pub mod Prefix
