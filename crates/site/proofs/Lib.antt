pub mod Doing
pub mod Lists
pub mod Opened
pub mod Stories
pub mod Told
pub mod Turned
pub mod Values
