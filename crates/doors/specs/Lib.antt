pub mod Doorways
pub mod Memory
pub mod Spans
pub mod Silence
pub mod Rounds
pub mod Runs
