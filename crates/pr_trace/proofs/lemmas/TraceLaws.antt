pub mod Entries
pub mod Replies
pub mod Runs
pub mod Scripts
pub mod Traces
pub mod Words
