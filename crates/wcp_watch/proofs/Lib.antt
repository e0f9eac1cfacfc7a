mod Words
pub mod CheckedItems
pub mod ClimbedLanes
pub mod FirstFaults
pub mod WatchEnds
pub mod MatchedLinks
pub mod MatchedRings
pub mod Seating
pub mod SettledEnds
pub mod SentEnds
pub mod ToldReports
