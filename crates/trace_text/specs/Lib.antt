pub mod Waiting
pub mod Lines
pub mod Json
pub mod Printed
pub mod Unknown
