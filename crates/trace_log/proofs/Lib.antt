mod Words
pub mod Numbers
pub mod Clocks
pub mod Distinct
pub mod Passing
pub mod Objects
pub mod Quick
pub mod Renumbered
pub mod HostNumbers
pub mod Texts
pub mod Handed
pub mod Falls
pub mod Binds
pub mod Cycles
pub mod Keeps
pub mod Stamps
pub mod PlainEvents
pub mod Turning
pub mod NumberedTurns
pub mod EventWords
mod Turns
mod LogLines
mod LinesRead
mod ReadLines
