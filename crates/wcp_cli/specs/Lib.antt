pub mod Edge
pub mod Faults
pub mod RequestAnswers
pub mod Words
