-- Where messages go, and what they are about; the shards that stand for a batch, and those that a read asks.
pub mod Addresses
pub mod Addressed
pub mod About
pub mod Stations
pub mod Near
pub mod PartRows
pub mod Asking
