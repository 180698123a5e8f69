pub mod Conduct
pub mod Written
