pub mod Playing
pub mod Looked
pub mod Stuck
pub mod Logged
pub mod Settled
