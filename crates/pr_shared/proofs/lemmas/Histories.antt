pub mod Resets
pub mod Seats
pub mod Turns
