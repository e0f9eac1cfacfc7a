pub mod Events
pub mod Messages
pub mod Columns
pub mod Halves
pub mod Layout
pub mod Rows
