mod Words
pub mod RunEnds
pub mod PlayedWorkers
pub mod RunFaults
