mod Words
pub mod Waits
pub mod Steps
pub mod EventsRead
