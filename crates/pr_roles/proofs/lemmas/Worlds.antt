pub mod AlikeReplies
pub mod Controls
pub mod Counts
pub mod Fetches
pub mod Refusals
pub mod Resets
pub mod SpelledBytes
