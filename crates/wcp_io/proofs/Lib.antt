mod Rests
pub mod Words
mod Firsts
mod Found
mod Given
