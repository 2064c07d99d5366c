pub mod Sites
pub mod Asked
pub mod Holds
pub mod Faults
pub mod BySites
pub mod Performing
