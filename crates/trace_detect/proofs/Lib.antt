mod Words
mod Taking
mod Hosts
mod Knowing
mod Watches
mod NextTaken
mod Telling
mod Silence
pub mod Detecting
mod Following
mod OnTheWay
pub mod Recorded
pub mod RunsTaken
