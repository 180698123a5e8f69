pub mod Counts
pub mod Lengths
