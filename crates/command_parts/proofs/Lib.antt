pub mod ChangeRows
pub mod Refused
