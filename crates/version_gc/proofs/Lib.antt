pub mod Collected
pub mod Deeds
pub mod CollectedRanges
pub mod RowDeeds
