pub mod States
pub mod Completed
pub mod Taken
pub mod Valid
