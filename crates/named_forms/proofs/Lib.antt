pub mod Texts
mod Walking
