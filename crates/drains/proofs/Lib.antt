pub mod Underway
pub mod InTime
