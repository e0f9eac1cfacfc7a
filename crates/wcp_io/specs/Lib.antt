pub mod Input
pub mod Edge
pub mod Prefixes
pub mod WriteFaults
pub mod Lines
pub mod Reader
pub mod Parts
