pub mod Reserves
pub mod Room
