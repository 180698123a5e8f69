pub mod Classes
pub mod Differences
