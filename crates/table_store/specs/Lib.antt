pub mod Nodes
pub mod Rows
pub mod Places
pub mod Marks
pub mod Protections
pub mod SearchKey
pub mod Parts
pub mod Tables
pub mod Drafts
-- what stands below, for the crates above
pub use Rattle.db_records.specs.depot_path as depot_path
pub use Rattle.db_records.specs as db_records
