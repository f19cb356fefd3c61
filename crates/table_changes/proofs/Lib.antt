mod Changes
mod Drafts
-- what stands below, for the crates above
pub use Rattle.table_store.proofs as table_store
