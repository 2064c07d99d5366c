-- Worked runs of one shard, and the forms that resemble its law, which they refute.
pub mod Closed
pub mod WorkedHonest
pub mod Refuted
