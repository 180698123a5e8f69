pub mod ClosedViews
pub mod Rounds
