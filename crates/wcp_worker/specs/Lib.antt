pub mod Lanes
pub mod Mailboxes
pub mod Played
pub mod Workers
pub mod Opening
pub mod Runs
