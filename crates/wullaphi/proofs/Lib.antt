mod Asked
mod Ends
pub mod LentProbes
mod OwnWatches
mod Ready
mod Seating
pub mod SentEnds
mod TakenStamps
