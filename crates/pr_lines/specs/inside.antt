pub mod Keywords
pub mod Lists
