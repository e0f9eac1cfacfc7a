pub mod Bytes
pub mod Lists
pub mod Reaching
pub mod Rising
