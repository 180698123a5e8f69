pub mod Lengths
pub mod Legality
