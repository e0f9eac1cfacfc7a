pub mod Limits
pub mod Merge
pub mod Notes
pub mod Numbers
pub mod Padding
pub mod ProcessNumbers
