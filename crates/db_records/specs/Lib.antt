pub mod Table
pub mod Key
pub mod Record
pub mod Fields
pub mod KeyLaws
-- what stands below, for the crates above
pub use Rattle.depot_path.specs as depot_path
