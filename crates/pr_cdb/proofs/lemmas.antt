pub mod AlikeData
pub mod CommandRoundTrip
pub mod FieldRanges
pub mod ReplyRoundTrip
