pub mod Changed
pub mod Drafts
pub mod InOrder
-- what stands below, for the crates above
pub use Rattle.table_store.specs as table_store
