pub mod ClockMembers
pub mod Naming
pub mod Saying
pub mod Turns
pub mod Taking
pub mod Assuming
