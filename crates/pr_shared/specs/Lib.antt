pub mod Guests
pub mod Histories
pub mod Outcomes
pub mod RunAnswers
pub mod Seats
pub mod TurnAnswers
pub mod inside
