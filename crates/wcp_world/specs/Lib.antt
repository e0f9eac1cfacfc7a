pub mod Answer
pub mod PutNotes
pub mod Messages
pub mod Processes
pub mod Transport
pub mod World
pub mod WorldView
pub mod Plays
