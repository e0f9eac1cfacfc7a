pub mod Ends
pub mod Message
pub mod MemberSets
pub mod Passes
pub mod Snapshots
