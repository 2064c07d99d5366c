pub mod Orders
pub mod Exploration
