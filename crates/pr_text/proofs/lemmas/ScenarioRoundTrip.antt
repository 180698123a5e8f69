pub mod NexusLines
pub mod Uniqueness
pub mod WholeLines
