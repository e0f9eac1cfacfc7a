mod Words
pub mod Ends
pub mod Numbers
pub mod Turns
pub mod LineEnds
pub mod Found
