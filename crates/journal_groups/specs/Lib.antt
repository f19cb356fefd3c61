pub mod Groups
pub mod Reading
pub mod Committed
pub mod Reader
pub mod Taken
pub mod Laws
pub mod Causes
