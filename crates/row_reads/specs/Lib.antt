pub mod Counters
pub mod Forms
pub mod Found
pub mod Groups
pub mod Views
