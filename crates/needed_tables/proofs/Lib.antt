mod Bare
pub mod Fitting
mod Differing
mod Standing
pub mod Storing
pub mod Whole
