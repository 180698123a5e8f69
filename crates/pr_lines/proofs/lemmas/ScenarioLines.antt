pub mod Terms
pub mod Words
