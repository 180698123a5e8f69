pub mod ServiceActions
