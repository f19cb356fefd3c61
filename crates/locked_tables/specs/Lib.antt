pub mod Taken
pub mod Known
pub mod Held
pub mod Placing
