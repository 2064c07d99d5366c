pub mod DepSet
pub mod Waiting
pub mod Askers
pub mod Moving
pub mod MoveTaken
