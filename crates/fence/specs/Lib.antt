pub mod Explanations
pub mod inside
