pub mod Events
pub mod Definitely
pub mod Logs
pub mod Waiting
