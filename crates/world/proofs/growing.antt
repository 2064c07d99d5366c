-- Runs only grow: what was sent, submitted, decided and completed stays; a part of a run is kept in the whole.
pub mod Growth
pub mod Grown
pub mod Prefixes
