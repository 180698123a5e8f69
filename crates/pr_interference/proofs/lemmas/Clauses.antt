pub mod Commands
pub mod Spellings
