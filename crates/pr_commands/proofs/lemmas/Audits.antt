pub mod BytesTaken
