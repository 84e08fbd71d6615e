pub mod Numbered
pub mod Ranges
pub mod Cloth
pub mod Rope
pub mod Meshes
pub mod Appending
