pub mod Standing
pub mod Deed
pub mod Effects
pub mod Cut
pub mod Needs
pub mod Rising
-- what stands below, for the crates above
pub use Rattle.depot_model.specs.depot_path as depot_path
pub use Rattle.depot_model.specs.db_records as db_records
pub use Rattle.table_changes.specs.table_store as table_store
pub use Rattle.depot_model.specs.spec_form as spec_form
pub use Rattle.depot_model.specs.protect_table as protect_table
pub use Rattle.depot_model.specs.view_map as view_map
pub use Rattle.depot_model.specs as depot_model
pub use Rattle.table_changes.specs as table_changes
