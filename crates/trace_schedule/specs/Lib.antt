pub mod InOrder
pub mod Recorded
pub mod Schedule
