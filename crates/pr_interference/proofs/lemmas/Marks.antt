pub mod Images
pub mod Resets
