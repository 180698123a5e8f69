pub mod AlikeReplies
pub mod Replies
