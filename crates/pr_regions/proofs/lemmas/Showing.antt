pub mod AlikeStates
pub mod AlikeViews
pub mod Numbers
pub mod ShownStates
