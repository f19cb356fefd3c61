pub mod Lanes
pub mod Seats
pub mod Rule
pub mod Plays
