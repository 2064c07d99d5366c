pub mod Links
pub mod Rings
pub mod Mesh
