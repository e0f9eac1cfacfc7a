mod Words
pub mod Members
pub mod Past
pub mod Reading
pub mod Giving
pub mod Given
pub mod Hosts
pub mod Ordering
pub mod Noting
pub mod Numbers
pub mod Receiving
pub mod Kept
pub mod Texts
pub mod Steps
pub mod Rounds
pub mod Clones
