pub mod Parcels
pub mod Texts
pub mod Fields
