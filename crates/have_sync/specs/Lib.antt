pub mod Having
pub mod Newest
pub mod Places
pub mod Placing
pub mod Syncing
