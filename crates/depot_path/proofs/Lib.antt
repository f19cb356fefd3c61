pub mod Answers
pub mod Spelling
pub mod Units
pub mod Paths
pub mod PlainPaths
pub mod Texts
pub mod Rows
pub mod Columns
pub mod Growing
pub mod Dates
pub mod Ends
pub mod PathOrder
mod Examples
