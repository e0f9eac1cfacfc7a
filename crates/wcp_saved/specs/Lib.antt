pub mod Spelling
pub mod Watches
