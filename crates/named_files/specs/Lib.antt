pub mod Anywhere
pub mod Asked
pub mod Beginnings
pub mod HeadRows
pub mod Listed
pub mod Sets
