-- What an event makes of a run, case by case: it is refused, or is one actor's step; what that sends, counts and ends.
pub mod Refusals
pub mod EventCases
pub mod Moves
pub mod HeardCases
pub mod BegunCases
pub mod Begun
pub mod EndCases
pub mod Ticks
pub mod OwnSends
pub mod SessionSends
pub mod Transcripts
pub mod Counted
