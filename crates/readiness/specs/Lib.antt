pub mod Lines
pub mod Memory
pub mod Exchanges
pub mod Kept
pub mod Turns
pub mod Places
pub mod Runs
