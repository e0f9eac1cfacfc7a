pub mod Cuts
pub mod Loaded
pub mod Marks
pub mod Restored
pub mod Small
pub mod SmallWatch
pub mod Spelled
