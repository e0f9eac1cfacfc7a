mod Words
pub mod Ending
pub mod Faithful
pub mod Fed
pub mod InnerWork
pub mod LeafWork
pub mod Lists
pub mod LiveProbes
pub mod RisingLogs
pub mod Ordering
pub mod Parents
pub mod Entries
pub mod Passing
pub mod Accepting
pub mod Bundling
pub mod FreshProbes
