mod Words
mod Pairs
mod Seekers
mod Questions
pub mod Bridge
mod OneAsked
mod ReadingOn
