pub mod Ends
pub mod Frames
pub mod Links
