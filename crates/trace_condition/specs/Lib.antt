pub mod Rules
pub mod Holding
pub mod Asked
pub mod Sayings
pub mod Conditions
pub mod Judging
