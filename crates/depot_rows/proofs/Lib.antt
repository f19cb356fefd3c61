pub mod Keys
pub mod Spelled
pub mod Alike
pub mod Counters
pub mod Lists
pub mod Locks
pub mod Openings
pub mod Resolves
pub mod ChangeCounter
pub mod Flat
pub mod Entries
pub mod Submitted
pub mod Following
pub mod Twins
pub mod Allowed
pub mod Cutting
pub mod CutPairs
pub mod CutRows
pub mod Sorted
-- what stands below, for the crates above
pub use Rattle.depot_model.proofs.depot_path as depot_path
pub use Rattle.depot_model.proofs.db_records as db_records
pub use Rattle.table_changes.proofs.table_store as table_store
pub use Rattle.depot_model.proofs.spec_form as spec_form
pub use Rattle.depot_model.proofs.view_map as view_map
pub use Rattle.depot_model.proofs as depot_model
