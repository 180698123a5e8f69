pub mod MappedLists
pub mod Nexuses
pub mod OtherSets
pub mod Scripts
