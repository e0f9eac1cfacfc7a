pub mod CheckerEnds
pub mod Matching
pub mod Seats
pub mod Settling
pub mod SeatedEnds
pub mod RunParts
