pub mod Past
pub mod Story
pub mod Sites
pub mod Keeping
pub mod Turns
pub mod Ends
pub mod Steps
