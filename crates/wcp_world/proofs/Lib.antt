mod Words
pub mod AnsweredEvents
pub mod Probes
pub mod Entries
pub mod AnsweredMoves
pub mod Places
pub mod WorldAfterStep
pub mod Histories
pub mod LostMarks
