pub mod History
pub mod Reasons
pub mod Left
pub mod Views
pub mod Texts
