pub mod Adding
pub mod Credits
pub mod Ending
pub mod Files
pub mod Integrated
pub mod Opening
pub mod Turning
