pub mod Following
pub mod Made
pub mod Tags
