mod Passing
pub mod Asked
pub mod Faults
pub mod Orders
pub mod Turns
pub mod Making
