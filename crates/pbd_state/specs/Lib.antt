pub mod Fields
pub mod Naming
pub mod Checksum
pub mod Reading
pub mod Laws
