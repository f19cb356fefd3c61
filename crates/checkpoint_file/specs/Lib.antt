pub mod Tables
pub mod Checkpoint
pub mod Generations
