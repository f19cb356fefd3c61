pub mod Types
pub mod Sorted
pub mod Numerals
pub mod Deeds
pub mod Latest
pub mod Revisions
pub mod Opened
pub mod Numbers
pub mod Asking
pub mod Choice
pub mod Range
pub mod Rows
pub mod Refusals
pub mod Values
pub mod FormRows
pub mod About
pub mod Step
pub mod Arguments
pub mod Shelves
pub mod Fixes
pub mod Common
pub mod Steps
pub mod Commands
pub mod Printed
pub mod Places
pub mod Order
pub mod Records
pub mod Filter
pub mod Cut
pub mod Tables
pub mod WellFormed
pub mod Rules
pub mod Contents
-- what stands below, for the crates above
pub use Rattle.db_records.specs.depot_path as depot_path
pub use Rattle.db_records.specs as db_records
pub use Rattle.spec_form.specs as spec_form
pub use Rattle.protect_table.specs as protect_table
pub use Rattle.view_map.specs as view_map
