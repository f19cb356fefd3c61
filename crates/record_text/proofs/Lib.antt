pub mod Runs
pub mod Chains
pub mod Numbers
pub mod Texts
pub mod Inner
pub mod Words
pub mod Plain
pub mod RecordLaws
pub mod Clauses
mod Examples
