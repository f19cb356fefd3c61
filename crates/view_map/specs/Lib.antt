pub mod Specifiers
pub mod Carry
pub mod Mapping
pub mod Reading
pub mod Beginnings
