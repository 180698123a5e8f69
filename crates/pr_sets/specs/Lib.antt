pub mod Numbers
pub mod BitSets
pub mod Wides
pub mod Kept
pub mod Laws
