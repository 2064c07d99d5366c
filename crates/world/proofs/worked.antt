-- Worked runs, and the forms that resemble promises, which they refute.
pub mod Closed
pub mod Replayed
pub mod WorkedEntries
pub mod WorkedPasts
pub mod WorkedMove
pub mod WorkedFreshness
pub mod RefutedReads
pub mod RefutedFreshness
pub mod RefutedHistories
pub mod RefutedOutcomes
pub mod RefutedShards
pub mod RefutedDrains
pub mod RefutedLocal
