pub mod Digests
pub mod Filled
pub mod Good
mod Named
