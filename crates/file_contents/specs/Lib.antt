pub mod Contents
pub mod Content
