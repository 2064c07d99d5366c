pub mod Past
pub mod Waiting
pub mod Present
pub mod AtRest
pub mod Promises
pub mod Held
