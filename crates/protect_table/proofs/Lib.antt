pub mod Places
pub mod WordLemmas
pub mod Standing
pub mod Lines
pub mod Naming
mod Examples
pub mod LawLemmas
