pub mod Logs
pub mod Sites
pub mod Told
