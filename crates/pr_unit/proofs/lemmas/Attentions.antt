pub mod Pairs
pub mod Resets
pub mod ToldAttentions
