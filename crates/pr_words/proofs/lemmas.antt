pub mod Adoptions
