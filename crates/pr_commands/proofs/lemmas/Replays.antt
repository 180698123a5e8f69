pub mod Plans
pub mod Traces
