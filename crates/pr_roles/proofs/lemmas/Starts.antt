pub mod AllowedStarts
pub mod Reservations
