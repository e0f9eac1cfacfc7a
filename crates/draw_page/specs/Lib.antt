pub mod Adding
pub mod Events
pub mod Messages
pub mod Model
pub mod Data
