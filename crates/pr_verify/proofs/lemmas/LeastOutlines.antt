pub mod MissingViews
pub mod Possibilities
