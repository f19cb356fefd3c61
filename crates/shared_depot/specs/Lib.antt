pub mod Stored
pub mod Common
pub mod Sharing
pub mod Replicas
pub mod Room
pub mod Asked
pub mod Link
