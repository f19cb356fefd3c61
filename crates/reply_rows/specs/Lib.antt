pub mod Made
pub mod Refusing
