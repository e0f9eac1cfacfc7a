pub mod Pages
pub mod Replies
pub mod Several
