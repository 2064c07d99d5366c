-- The promises of every run, each from the group that shows it; of the run that a world is, and of journals.
pub mod Laws
pub mod Promised
pub mod Threaded
