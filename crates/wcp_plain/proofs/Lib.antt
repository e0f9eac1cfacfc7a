mod Words
pub mod OnePass
pub mod Turns
