pub mod SevenWords
pub mod LinesAhead
pub mod TraceLines
pub mod FrontsWritten
pub mod WordsWritten
