pub mod Lines
pub mod Memory
pub mod Ports
pub mod Served
pub mod Parts
