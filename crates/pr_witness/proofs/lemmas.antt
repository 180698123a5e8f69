pub mod AllowedStarts
pub mod Ends
pub mod FollowedHistories
pub mod Moments
pub mod Refutations
