pub mod Stored
pub mod Quietly
mod Seats
mod Sets
mod Outcomes
pub mod Order
pub mod Fronts
mod Written
mod Followed
mod Committed
mod Held
mod Marks
mod Turns
mod Told
mod Places
pub mod Links
