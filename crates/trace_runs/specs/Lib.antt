pub mod Runs
pub mod Kept
pub mod Views
pub mod Keeping
pub mod Search
