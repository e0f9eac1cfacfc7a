mod Words
pub mod TakenMore
pub mod OneMoreAction
pub mod NewLanes
pub mod OpenedRows
pub mod OpenedWorkers
pub mod MatchedLanes
pub mod PlayedLanes
pub mod RunOutcomes
