mod Blocks
mod Fetched
mod Forms
mod Grouped
mod Heads
mod Images
pub mod Keeping
mod Made
mod Linked
mod Opening
mod Runs
mod Scanning
pub mod Standing
