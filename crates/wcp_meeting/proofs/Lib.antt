pub mod Steps
pub mod Taking
