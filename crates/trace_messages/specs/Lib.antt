pub mod Words
pub mod Faults
pub mod Printed
pub mod Named
pub mod Lines
pub mod Said
