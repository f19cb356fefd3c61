pub mod Prefixes
pub mod Touches
pub mod Learning
pub mod Keeps
pub mod Forms
mod Worked
