-- What is newest among parts of histories, and what later or other parts change of that.
pub mod Apart
pub mod Places
pub mod Newer
pub mod Passing
pub mod Touched
pub mod Untouched
pub mod Overtaken
pub mod Later
pub mod SameParts
pub mod OneWriter
