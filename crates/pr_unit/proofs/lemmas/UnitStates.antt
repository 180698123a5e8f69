pub mod AlikeStates
pub mod Effects
pub mod Releases
pub mod ToldOnce
