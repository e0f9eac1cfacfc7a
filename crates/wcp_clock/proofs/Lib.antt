pub mod Marks
pub mod Merging
