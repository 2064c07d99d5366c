pub mod Recorded
pub mod Reading
pub mod Report
pub mod Performing
pub mod Writing
pub mod Recording
