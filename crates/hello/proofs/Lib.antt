pub mod Blocks
pub mod Gathered
pub mod Spelled
pub mod Meetings
