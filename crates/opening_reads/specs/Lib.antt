pub mod InChange
pub mod OwnOpenings
pub mod Read
pub mod Owed
