pub mod NameText
pub mod NumberRoom
