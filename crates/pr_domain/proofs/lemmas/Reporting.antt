pub mod Ends
pub mod FoundWords
pub mod MatchingTests
pub mod OutcomeLists
pub mod OwnerStates
