-- The histories of data centres: an entry for each decision, with one stamp everywhere; how one gets them by asking.
pub mod Decisions
pub mod DecidedIn
pub mod Entries
pub mod HistoriesGrow
pub mod OneStampEverywhere
pub mod WritesAreEntries
pub mod Histories
pub mod NamedStamps
pub mod LaterCommits
pub mod AskedFor
pub mod AskedHistory
