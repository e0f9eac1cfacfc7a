pub mod AnyTwo
pub mod Fitting
pub mod Options
pub mod Requests
pub mod Spelled
