pub mod Versions
pub mod TraceText
pub mod Traces
pub mod EntryWords
pub mod BytesTaken
pub mod TraceReadings
pub mod TraceLaws
pub mod inside
