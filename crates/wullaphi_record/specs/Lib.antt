pub mod Recorded
pub mod Logs
pub mod Views
