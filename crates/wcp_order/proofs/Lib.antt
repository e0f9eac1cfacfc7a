mod Words
mod Advancing
mod Concluding
pub mod Counting
mod Doable
mod Prefixes
mod Histories
pub mod Lengths
pub mod Tasks
