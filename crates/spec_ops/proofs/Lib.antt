pub mod Made
pub mod NextGeneration
pub mod Read
