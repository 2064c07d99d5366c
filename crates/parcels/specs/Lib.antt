pub mod Spelling
pub mod Kinds
pub mod Reading
pub mod Worked
