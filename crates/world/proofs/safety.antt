-- What holds of every run: of each envelope, shard, session and completed operation. It goes on holding as a run grows.
pub mod Facts
pub mod Invariant
pub mod Lasting
pub mod LastingAll
pub mod Able
pub mod Ables
pub mod Numbers
pub mod OneBatch
pub mod Told
pub mod Runs
pub mod HonestLists
pub mod Sendings
pub mod Completions
