pub mod Joined
pub mod RevisionTypes
