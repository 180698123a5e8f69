pub mod Histories
pub mod Judgements
pub mod Parts
pub mod Ways
