pub mod Stuck
pub mod Progress
