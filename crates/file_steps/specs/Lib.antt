pub mod Goes
pub mod Limits
