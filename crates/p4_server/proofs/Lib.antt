pub mod RowsLemmas
pub mod Openings
pub mod Dumps
pub mod Contents
pub mod Together
pub mod Coming
pub mod Readings
pub mod Ending
pub mod Ran
pub mod FaultPlaces
pub mod Promises
pub mod Scheduled
pub mod Begun
pub mod Checkpoints
pub mod Loadings
pub mod Mades
pub mod Names
mod Histories
pub mod Asked
mod Inits
pub mod Writtens
