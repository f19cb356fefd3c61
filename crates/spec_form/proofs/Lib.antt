pub mod Cutting
pub mod Utf8
pub mod Trimming
pub mod FieldsLemmas
pub mod Good
pub mod Names
pub mod Printed
pub mod With
mod Rows
