mod Saying
mod OptionWords
mod LineNumbers
pub mod Found
