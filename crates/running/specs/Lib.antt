pub mod Asked
pub mod Loaded
pub mod Course
pub mod Told
pub mod Faults
pub mod Running
pub mod Performing
