mod Words
pub mod Handed
pub mod Cuts
pub mod Reading
pub mod Sayings
pub mod Conditions
