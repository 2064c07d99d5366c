-- The world in code stands for its run, after each event.
pub mod Beginning
pub mod Held
pub mod Running
pub mod Taking
pub mod Opened
pub mod Listed
pub mod Unready
pub mod Unfinished
pub mod Stretched
