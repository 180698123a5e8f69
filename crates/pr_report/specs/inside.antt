pub mod Possible
pub mod WordsWritten
