pub mod PlayedEnds
pub mod RunWorkload
pub mod RunFaults
