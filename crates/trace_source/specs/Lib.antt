pub mod Story
pub mod Clocked
