pub mod Saying
pub mod Lines
pub mod Given
pub mod Remaining
