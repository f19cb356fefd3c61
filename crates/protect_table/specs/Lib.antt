pub mod Words
pub mod Mode
pub mod Wildcard
pub mod Line
pub mod Rights
pub mod Numbers
