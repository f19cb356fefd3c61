pub mod Spelled
pub mod Names
pub mod Taking
pub mod Each
pub mod Parting
pub mod Giving
pub mod PrintedTypes
pub mod FormedArguments
pub mod Formed
pub mod FormedFiles
pub mod FormedWords
pub mod FormedLines
mod Examples
