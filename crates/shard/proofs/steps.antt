-- The steps of the protocol, case by case: what each keeps for good, sends, and lets wait.
pub mod HandledCases
pub mod Commits
pub mod Votes
pub mod ReadSteps
pub mod Remotes
pub mod Within
pub mod Sending
pub mod Handles
