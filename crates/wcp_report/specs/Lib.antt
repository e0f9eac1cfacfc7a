pub mod ReplayText
pub mod ReplyText
pub mod ReportText
