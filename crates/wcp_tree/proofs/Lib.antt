mod Words
pub mod Linking
pub mod Climbs
pub mod Gathering
pub mod OpeningRings
pub mod Seating
pub mod Serving
pub mod MemberSets
