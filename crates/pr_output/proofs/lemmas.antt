pub mod PrintedLines
pub mod Written
