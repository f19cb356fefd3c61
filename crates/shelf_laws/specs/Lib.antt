pub mod Unshelving
