pub mod OutlineText
pub mod Verdicts
pub mod WordsWritten
