-- A store keeps what it kept where a part is applied, and where a collection drops what can not be seen.
pub mod Lasting
pub mod Changes
pub mod Counts
pub mod Written
pub mod KeepsApplied
pub mod Listed
pub mod Collected
