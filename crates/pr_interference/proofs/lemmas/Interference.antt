pub mod AlikeViews
pub mod Conduct
pub mod Nexuses
pub mod PendingStates
