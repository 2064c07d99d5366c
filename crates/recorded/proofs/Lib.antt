pub mod Reports
pub mod Spelled
pub mod Recordings
pub mod Listed
