mod Families
pub mod Storing
pub mod Granted
pub mod Locking
pub mod Refusals
