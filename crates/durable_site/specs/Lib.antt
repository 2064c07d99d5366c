pub mod Logged
pub mod Settled
pub mod Kept
pub mod Stuck
pub mod Heard
pub mod Met
