pub mod AcceptedCalls
pub mod Mismatch
