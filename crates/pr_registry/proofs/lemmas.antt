pub mod Bits
pub mod Contents
pub mod KeyValues
pub mod Kinds
pub mod Sets
pub mod States
pub mod Tables
pub mod ToldRegistrants
