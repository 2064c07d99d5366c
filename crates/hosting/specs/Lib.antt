pub mod Alone
pub mod Rounds
