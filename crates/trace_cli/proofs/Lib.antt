mod Statuses
mod Picked
mod Telling
mod MomentsTold
pub mod Passing
