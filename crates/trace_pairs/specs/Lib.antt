pub mod Taking
pub mod Hosts
pub mod Pairs
pub mod Kept
pub mod Thinned
pub mod Rows
pub mod Searching
pub mod Words
