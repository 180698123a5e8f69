pub mod Possibilities
pub mod Views
pub mod Portions
pub mod Rooms
pub mod Tables
pub mod inside
