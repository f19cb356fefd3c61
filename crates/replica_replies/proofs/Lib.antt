pub mod Alike
pub mod Bare
pub mod Shown
