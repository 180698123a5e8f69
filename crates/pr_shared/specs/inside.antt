pub mod Seating
pub mod Senders
pub mod Starting
pub mod WorldEnds
