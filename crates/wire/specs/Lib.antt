pub mod Fields
pub mod Requests
pub mod Replies
pub mod Reading
pub mod Frames
pub mod Answers
pub mod Seen
pub mod Worked
