mod Refusals
mod Named
mod Parts
pub mod Found
