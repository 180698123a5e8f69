pub mod Possibilities
