mod Old
mod New
pub mod Whole
