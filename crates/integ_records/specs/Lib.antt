pub mod Crediting
pub mod Ends
pub mod Integrates
pub mod Reading
pub mod Turns
pub mod Ways
