-- Each event keeps what holds of every run: at a shard case by case, at a session, and at a submission.
pub mod ShardSteps
pub mod AskedMarks
pub mod Decides
pub mod CasesKept
pub mod HandlesKept
pub mod SessionSteps
pub mod SessionEnds
pub mod TakenRows
pub mod WritersDone
pub mod SessionsKept
pub mod Submissions
pub mod Events
