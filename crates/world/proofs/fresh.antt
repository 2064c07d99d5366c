-- Reads are fresh, and given up only where a collection went above their effective times.
pub mod HeardFirst
pub mod HeardRuns
pub mod FirstRounds
pub mod FreshShown
pub mod KeptAnswers
pub mod NowSent
pub mod FreshReads
pub mod Horizons
pub mod GivenUp
