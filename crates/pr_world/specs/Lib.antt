pub mod Courses
pub mod Replays
pub mod Laws
pub mod Rooms
pub mod Progress
pub mod StepAnswers
pub mod inside
