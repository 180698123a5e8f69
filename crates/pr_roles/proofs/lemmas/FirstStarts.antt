pub mod Existence
pub mod Reservations
