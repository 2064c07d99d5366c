pub mod Hello
pub mod Mac
pub mod Meeting
pub mod Welcome
pub mod Worked
