pub mod Breaking
pub mod Passing
pub mod Welcoming
