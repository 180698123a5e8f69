pub mod Guests
pub mod Histories
pub mod Outcomes
pub mod SendableSeats
pub mod Senders
pub mod Starting
