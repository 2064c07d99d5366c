pub mod Ends
pub mod Collecting
pub mod Port
