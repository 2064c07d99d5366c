pub mod Asked
pub mod Logs
pub mod Playing
pub mod Requests
pub mod Untidied
pub mod Settled
pub mod Read
pub mod Opened
