-- A quiet run is settled: operations are done, batches are decided everywhere, and nothing waits.
pub mod Among
pub mod Settling
pub mod SettledShards
pub mod SettledAway
pub mod SettledTables
pub mod Answered
pub mod Settles
pub mod Local
pub mod Unhandled
