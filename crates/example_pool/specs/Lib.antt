pub mod Logs
pub mod Members
pub mod Pools
