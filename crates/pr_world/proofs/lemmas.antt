pub mod Courses
pub mod Laws
pub mod Participations
pub mod Replays
pub mod StepAnswers
pub mod Turns
pub mod Workings
