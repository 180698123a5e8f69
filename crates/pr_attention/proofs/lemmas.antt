pub mod Bits
pub mod FourCodes
pub mod LowestCodes
pub mod Sets
