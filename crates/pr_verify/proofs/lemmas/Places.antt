pub mod Replies
pub mod Successors
