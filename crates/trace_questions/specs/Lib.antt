pub mod Wordings
pub mod Seen
pub mod Questions
pub mod Faults
