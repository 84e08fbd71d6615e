pub mod Below
pub mod Corners
pub mod Every
pub mod Facts
pub mod Growing
pub mod Meshes
pub mod MeshLinks
