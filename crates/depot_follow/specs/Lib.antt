pub mod Ends
pub mod Lines
pub mod Opening
pub mod Following
pub mod Chain
