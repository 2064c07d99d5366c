-- Journals: each actor is the replay of its own, and journals that fit together are a run.
pub mod Replays
pub mod JournalSteps
pub mod EachShard
pub mod OwnJournals
pub mod Places
pub mod Numbered
pub mod Journaled
pub mod Links
pub mod Merged
pub mod Happenings
pub mod HandledHere
