mod Sums
mod Cuts
mod Orders
mod Overlapping
mod Runs
mod Avoiding
mod Choosing
mod Deciding
mod Reaching
mod Counts
pub mod Moments
mod LogRuns
mod RowRuns
pub mod Waits
