pub mod Interference
pub mod inside
