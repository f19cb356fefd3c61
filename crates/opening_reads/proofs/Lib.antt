pub mod InChange
pub mod Onwards
pub mod Opens
pub mod OwedRows
pub mod Owing
pub mod OwingRows
pub mod OwnDeeds
pub mod ToldRows
