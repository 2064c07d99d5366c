mod Frames
mod Entries
mod Heads
pub mod Reading
pub mod Stores
pub mod Whole
