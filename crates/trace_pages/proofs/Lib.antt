mod Replies
mod SaidOfReplies
mod Sighted
mod Statuses
mod Together
