pub mod Portions
pub mod Possibilities
pub mod Rooms
pub mod Views
