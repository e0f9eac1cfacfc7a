mod Words
pub mod JoinedParts
