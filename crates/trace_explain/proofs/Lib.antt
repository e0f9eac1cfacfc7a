mod Words
pub mod Filters
pub mod Events
pub mod Eliminated
pub mod Taking
pub mod Told
pub mod Printing
