pub mod Port
pub mod Meaning
pub mod Connections
pub mod Sessions
pub mod Awaited
