pub mod Percentiles
pub mod Replies
pub mod Tallies
pub mod Mixes
pub mod Told
pub mod Lines
