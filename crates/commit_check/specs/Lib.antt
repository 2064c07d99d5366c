pub mod Waiting
pub mod Marked
pub mod Coming
pub mod Found
