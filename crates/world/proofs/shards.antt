-- Each shard of a run is right: it handled what was sent to it, and what it answered shows all that it had applied.
pub mod Playing
pub mod RightAnswers
