mod Words
pub mod Queues
pub mod Laying
pub mod Halves
pub mod Past
pub mod Marking
pub mod Splitting
pub mod Counting
pub mod Listing
