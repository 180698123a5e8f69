pub mod Costs
pub mod Explanations
