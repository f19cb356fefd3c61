pub mod Filters
pub mod TypeBases
pub mod Risen
pub mod Told
pub mod Counting
pub mod Empty
pub mod Scene
mod Rows
mod Settled
mod MoreRows
mod SingleRights
mod Moves
mod Shelved
mod Twelve
mod Lines
pub mod InForce
-- what stands below, for the crates above
pub use Rattle.db_records.proofs.depot_path as depot_path
pub use Rattle.db_records.proofs as db_records
pub use Rattle.spec_form.proofs as spec_form
pub use Rattle.view_map.proofs as view_map
