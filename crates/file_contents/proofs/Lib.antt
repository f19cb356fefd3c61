pub mod ContentRows
pub mod Finding
pub mod Giving
