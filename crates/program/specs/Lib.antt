pub mod Inputs
pub mod Lines
pub mod Outputs
pub mod Telling
