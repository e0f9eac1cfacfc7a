mod Words
pub mod Counting
pub mod Hands
pub mod Lists
pub mod NewPutters
pub mod Sets
pub mod Steps
