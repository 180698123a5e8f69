pub mod Bounds
pub mod Effects
pub mod HeldReservations
