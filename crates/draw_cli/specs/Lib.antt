pub mod Answers
pub mod Edge
pub mod SketchFaults
pub mod Names
pub mod Pages
pub mod Sketches
