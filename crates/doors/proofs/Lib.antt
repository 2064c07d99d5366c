pub mod Spans
pub mod Silent
pub mod Rounds
