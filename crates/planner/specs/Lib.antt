pub mod Checks
pub mod Homes
pub mod Join
pub mod Partition
pub mod Plan
pub mod Planned
