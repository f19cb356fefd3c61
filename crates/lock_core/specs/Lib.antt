pub mod Works
pub mod Parties
pub mod Core
pub mod Finished
pub mod Drawing
