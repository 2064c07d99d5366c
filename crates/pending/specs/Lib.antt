pub mod Held
pub mod Marks
pub mod Marked
