pub mod FittingParts
pub mod Lists
pub mod Places
pub mod Scripts
pub mod Texts
pub mod Trees
