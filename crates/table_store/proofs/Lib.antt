pub mod Order
pub mod Place
pub mod Nodes
pub mod Changes
pub mod Marks
pub mod OtherTables
