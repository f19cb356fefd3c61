pub mod Asking
pub mod Passing
pub mod Reading
pub mod Served
pub mod Taking
pub mod Requests
