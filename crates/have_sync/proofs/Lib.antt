pub mod Told
pub mod Onward
pub mod Owed
pub mod Sizes
pub mod Numbers
pub mod Synced
