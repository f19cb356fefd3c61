pub mod Owed
pub mod Premises
pub mod Refusals
pub mod Entries
pub mod Landing
pub mod Submitting
