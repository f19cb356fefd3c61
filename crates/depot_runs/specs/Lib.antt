pub mod Run
pub mod Kept
pub mod Replica
pub mod Folds
