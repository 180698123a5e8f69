pub mod OpenRepeats
pub mod Places
pub mod Standing
pub mod SamePositions
pub mod Successors
pub mod Tables
