mod Words
pub mod Reading
pub mod Members
pub mod Wordings
pub mod Asking
pub mod States
