pub mod EntriesInFront
pub mod FirstBytes
pub mod LinesInFront
