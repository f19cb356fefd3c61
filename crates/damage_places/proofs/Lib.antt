pub mod Fronts
pub mod Records
pub mod Texts
pub mod Journals
pub mod Places
