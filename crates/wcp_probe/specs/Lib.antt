pub mod Core
pub mod Seal
pub mod Refusals
pub mod Parts
pub mod Known
