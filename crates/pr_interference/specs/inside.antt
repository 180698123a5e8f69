pub mod Clauses
pub mod Closing
pub mod Interfering
pub mod Marks
pub mod Reaching
