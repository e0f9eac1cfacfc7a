mod Words
pub mod Thinning
pub mod Keeping
pub mod Taken
pub mod Turning
pub mod Hosting
pub mod Answering
pub mod Rounds
pub mod Turns
pub mod Clocking
pub mod Adding
pub mod Ending
pub mod Silent
pub mod Placing
pub mod Telling
