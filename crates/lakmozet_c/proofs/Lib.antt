pub mod Meshing
pub mod Reading
pub mod Refusing
pub mod Shortages
pub mod Values
