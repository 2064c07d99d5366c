pub mod Received
pub mod Ranges
pub mod Laid
pub mod Rows
pub mod LaidFrom
