pub mod Statuses
pub mod Requested
pub mod Questions
pub mod EachMoment
pub mod Edge
pub mod Respelled
pub mod Scheduled
