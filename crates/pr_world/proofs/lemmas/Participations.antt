pub mod Fetches
pub mod Others
pub mod Resets
