pub mod TwoTold
pub mod AnyTwo
pub mod Seeking
pub mod Answered
pub mod Asking
pub mod OfBytes
pub mod ReadingOn
