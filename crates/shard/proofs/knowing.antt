-- What a shard knows goes on holding.
pub mod LetGo
pub mod Updates
pub mod Additions
pub mod Grow
pub mod Asked
