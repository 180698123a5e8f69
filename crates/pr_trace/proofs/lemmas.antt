pub mod BytesTaken
pub mod EntryWords
pub mod FrontsWritten
pub mod LinesAhead
pub mod TraceLaws
pub mod TraceReadings
pub mod TraceText
