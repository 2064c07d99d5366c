pub mod Lines
pub mod Traced
pub mod Tracing
