pub mod Fields
pub mod Following
pub mod Submits
pub mod Contents
