pub mod Attendance
pub mod Places
pub mod Steps
