pub mod Alone
pub mod Fits
pub mod Senders
pub mod Stories
pub mod Meant
pub mod Same
pub mod Again
pub mod Idle
